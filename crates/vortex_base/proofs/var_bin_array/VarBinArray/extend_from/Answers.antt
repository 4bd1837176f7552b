use Rattle.std.proofs.Common.{◌≡◌, ◌+◌, ◌++◌, ℕ, List, Bool, length, map, ap, ap₂, sym, ◌∙◌, arith}
use Rattle.vortex_base.specs.Data.VarBinArray.{AreBlobs, blobs}
use Rattle.vortex_base.proofs.Data.AppendLemmas.{appended_in_room}
use Rattle.vortex_base.proofs.Data.BlobLemmas.{AreBlobs-join, blobs-join, end-within}
use Rattle.vortex_base.proofs.Data.OffsetLemmas.{unless_refused}
use Rattle.vortex_base.proofs.var_bin_array.VarBinArray.extend_from.Goals as goal

pub extend_from-requires-clause-fits : goal.extend_from-requires-clause-fits
extend_from-requires-clause-fits c i low =
    let more = c.others.inside in
    let within = end-within i 0 more.ends (length more.heap.items) 0 c.others.invariant.rising low in
    let heap = ap length c.deref.ensures.value in
    omega (arith, within, heap, c.in_ok-extend_from_slice.ensures.len, c.len-by.ensures, c.len-stop.ensures)

-- the fields that are joined
joined : (ends heap more others ends' heap' bytes : List ℕ) (validity those validity' mine_there flags : List Bool) (by : ℕ) → AreBlobs ends heap validity → AreBlobs more others those → by ≡ length heap
    → ends' ≡ ends ++ map (λ e. by + e) more → bytes ≡ others → heap' ≡ heap ++ bytes → mine_there ≡ validity → flags ≡ those → validity' ≡ mine_there ++ flags
    → AreBlobs ends' heap' validity' × (blobs ends' heap' validity' ≡ blobs ends heap validity ++ blobs more others those)
joined ends heap more others ends' heap' bytes validity those validity' mine_there flags by h g long first more_bytes second own_there more_there third =
    rw (first, long, second, more_bytes, third, own_there, more_there) (AreBlobs-join ends heap more others validity those h g, blobs-join ends heap more others validity those h)

pub invariant_of-self-2 : goal.invariant_of-self-2
invariant_of-self-2 c =
    let mine = c.self.inside in
    let more = c.others.inside in
    let extended = unless_refused (c.extend_from.new.self ≡ mine.ends ++ map (λ e. c.len-by.result + e) more.ends) c.extend_from.result (sym c.is_err.ensures.value ∙ c.if-is_err.false) c.extend_from.ensures.extended in
    (joined mine.ends mine.heap.items more.ends more.heap.items c.extend_from.new.self c.extend_from_slice.new.self.items c.deref.result.now
    mine.validity.items more.validity.items c.extend_from_slice-2.new.self.items c.reserve.new.self.items c.deref-2.result.now c.len-by.result c.self.invariant c.others.invariant (c.len-by.ensures ∙ mine.heap.ok.0)
    extended c.deref.ensures.value c.in_ok-extend_from_slice.ensures.items c.in_ok-reserve.ensures.items c.deref-2.ensures.value
    (appended_in_room c.extend_from_slice-2.result c.reserve.new.self.items c.deref-2.result.now _ c.extend_from_slice-2.ensures.items
    (c.extend_from_slice-2.ensures.succeeds (omega (arith, c.in_ok-reserve.ensures.ok, c.len.ensures, c.deref-2.ensures.len))))).0

pub returns-clause-extended : goal.returns-clause-extended
returns-clause-extended c =
    let mine = c.self.inside in
    let more = c.others.inside in
    let extended = unless_refused (c.extend_from.new.self ≡ mine.ends ++ map (λ e. c.len-by.result + e) more.ends) c.extend_from.result (sym c.is_err.ensures.value ∙ c.if-is_err.false) c.extend_from.ensures.extended in
    (joined mine.ends mine.heap.items more.ends more.heap.items c.extend_from.new.self c.extend_from_slice.new.self.items c.deref.result.now
    mine.validity.items more.validity.items c.extend_from_slice-2.new.self.items c.reserve.new.self.items c.deref-2.result.now c.len-by.result c.self.invariant c.others.invariant (c.len-by.ensures ∙ mine.heap.ok.0)
    extended c.deref.ensures.value c.in_ok-extend_from_slice.ensures.items c.in_ok-reserve.ensures.items c.deref-2.ensures.value
    (appended_in_room c.extend_from_slice-2.result c.reserve.new.self.items c.deref-2.result.now _ c.extend_from_slice-2.ensures.items
    (c.extend_from_slice-2.ensures.succeeds (omega (arith, c.in_ok-reserve.ensures.ok, c.len.ensures, c.deref-2.ensures.len))))).1
    ∙ ap₂ (λ bs cs. bs ++ cs) c.self.view_is c.others.view_is
