use Rattle.std.proofs.Common.{◌≡◌, ◌<◌, ◌≤◌, Some, true, length, get_or, sym, ap, ap₂, ◌∙◌, arith, slice_get, slice_range, ℕ, List, Bool, Option}
use Rattle.vortex_base.specs.Data.VarBinArray.{AreBlobs, blob, blob_at, blobs, start_at}
use Rattle.vortex_base.proofs.Data.BlobLemmas.{blobs-at, blobs-past, end-within, start-le-end}
use Rattle.vortex_base.proofs.var_bin_array.VarBinArray.get.Goals.{else-i-len-via-then-i-len+else-index, else-i-len-via-else-i-len}
use Rattle.vortex_base.proofs.var_bin_array.VarBinArray.get.Goals as goal

-- the place's part of the heap is one
part : (ends heap : List ℕ) (validity : List Bool) (i start end : ℕ) → AreBlobs ends heap validity → i < length validity → start ≡ start_at 0 ends i → end ≡ get_or ends i 0 → (start ≤ end) × (end ≤ length heap)
part ends heap validity i start end h low begins stops =
    let long = h.long in
    let order = start-le-end i 0 ends (length heap) 0 h.rising (omega arith) in
    let within = end-within i 0 ends (length heap) 0 h.rising (omega arith) in
    (omega arith, omega arith)

pub slice_bounds-result-count : goal.slice_bounds-result-count
slice_bounds-result-count c =
    let inside = c.self.inside in
    (part inside.ends inside.heap.items inside.validity.items c.args.i c.range-start.result.0 c.range-start.result.1 c.self.invariant (omega (arith, c.if-i-len.true, c.len.ensures, inside.validity.ok)) c.range-start.ensures.start c.range-start.ensures.end).0

pub slice_bounds-result-start : goal.slice_bounds-result-start
slice_bounds-result-start c = omega (arith, slice_bounds-result-count c)

pub slice_bounds-result-end : goal.slice_bounds-result-end
slice_bounds-result-end c =
    let inside = c.self.inside in
    let within = (part inside.ends inside.heap.items inside.validity.items c.args.i c.range-start.result.0 c.range-start.result.1 c.self.invariant (omega (arith, c.if-i-len.true, c.len.ensures, inside.validity.ok)) c.range-start.ensures.start c.range-start.ensures.end).1 in
    omega (arith, within, slice_bounds-result-count c, ap length c.deref.ensures.value)

-- what stands at a place that is told to be there
stands : (ends heap : List ℕ) (validity : List Bool) (i start end : ℕ) (bytes : List ℕ) (t : Bool) (bs : List (Option (List ℕ))) → AreBlobs ends heap validity → blobs ends heap validity ≡ bs → i < length validity → bytes ≡ heap → start ≡ start_at 0 ends i → end ≡ get_or ends i 0 → t ≡ get_or validity i t → t ≡ true → Some (slice_range bytes start end) ≡ blob_at (slice_get bs i)
stands ends heap validity i start end bytes t bs h view low those begins stops flag is =
    let long = h.long in
    sym (ap (λ l. blob_at (slice_get l i)) (sym view)
    ∙ blobs-at i 0 ends heap validity t 0 long (omega arith)
    ∙ ap₂ (λ (b : Bool) (k : ℕ). blob b (slice_range heap k (get_or ends i 0))) (sym flag ∙ is) (sym begins)
    ∙ ap₂ (λ (l : List ℕ) (k : ℕ). Some (slice_range l start k)) (sym those) (sym stops))

pub returns-then-index : goal.returns-then-index
returns-then-index c =
    let inside = c.self.inside in
    stands inside.ends inside.heap.items inside.validity.items c.args.i c.range-start.result.0 c.range-start.result.1 c.deref.result.now c.index.result.now c.args.self.now c.self.invariant c.self.view_is (omega (arith, c.if-i-len.true, c.len.ensures, inside.validity.ok)) c.deref.ensures.value c.range-start.ensures.start c.range-start.ensures.end c.index.ensures c.if-index.true

pub returns-else-i-len : goal.returns-else-i-len
returns-else-i-len c =
    let inside = c.self.inside in
    let long = c.self.invariant.long in
    sym (ap (λ l. blob_at (slice_get l c.args.i)) (sym c.self.view_is)
    ∙ elim c.else-i-len.branch [
      | else-i-len-via-then-i-len+else-index w ↦
          let low : c.args.i < length inside.ends = omega (arith, w.if-i-len.true, c.len.ensures, inside.validity.ok) in
          blobs-at c.args.i 0 inside.ends inside.heap.items inside.validity.items w.index.result.now 0 long low
          ∙ ap (λ t. blob t (slice_range inside.heap.items (start_at 0 inside.ends c.args.i) (get_or inside.ends c.args.i 0))) (sym w.index.ensures ∙ w.if-index.false)
      | else-i-len-via-else-i-len w ↦ blobs-past c.args.i 0 inside.ends inside.heap.items inside.validity.items (omega (arith, w.if-i-len.false, c.len.ensures, inside.validity.ok))
    ])
