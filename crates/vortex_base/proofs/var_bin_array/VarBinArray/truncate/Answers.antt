use Rattle.std.proofs.Common.{◌≡◌, ◌≤◌, List, ℕ, Bool, length, take, sym, ap, ◌∙◌, arith}
use Rattle.vortex_base.specs.Data.VarBinArray.{AreBlobs, blobs, start_at}
use Rattle.vortex_base.proofs.Data.BlobLemmas.{AreBlobs-truncate, blobs-length, blobs-truncate}
use Rattle.std.proofs.lemmas.List.{take_all}
use Rattle.vortex_base.proofs.var_bin_array.VarBinArray.truncate.Goals as goal

-- the fields that are cut
cut : (n end : ℕ) (ends heap ends' heap' : List ℕ) (validity validity' : List Bool) → AreBlobs ends heap validity → n ≤ length validity → end ≡ start_at 0 ends n → ends' ≡ take n ends → heap' ≡ take end heap → validity' ≡ take n validity → AreBlobs ends' heap' validity' × (blobs ends' heap' validity' ≡ take n (blobs ends heap validity))
cut n end ends heap ends' heap' validity validity' h within begins first second third =
    let long = h.long in
    let low : n ≤ length ends = omega (arith, within, long) in
    rw (first, second, third, begins) (AreBlobs-truncate n ends heap validity h low, blobs-truncate n ends heap validity h low)

pub invariant_of-self : goal.invariant_of-self
invariant_of-self c =
    let inside = c.self.inside in
    (cut c.args.len c.start_at-end.result inside.ends inside.heap.items c.truncate.new.self c.truncate-then-len.new.self.items inside.validity.items c.truncate-then-len-2.new.self.items c.self.invariant (omega (arith, c.if-len.true, c.len.ensures, inside.validity.ok)) c.start_at-end.ensures c.truncate.ensures c.truncate-then-len.ensures.items c.truncate-then-len-2.ensures.items).0

pub returns-then-len : goal.returns-then-len
returns-then-len c =
    let inside = c.self.inside in
    (cut c.args.len c.start_at-end.result inside.ends inside.heap.items c.truncate.new.self c.truncate-then-len.new.self.items inside.validity.items c.truncate-then-len-2.new.self.items c.self.invariant (omega (arith, c.if-len.true, c.len.ensures, inside.validity.ok)) c.start_at-end.ensures c.truncate.ensures c.truncate-then-len.ensures.items c.truncate-then-len-2.ensures.items).1
    ∙ ap (take c.args.len) c.self.view_is

pub returns-else-len : goal.returns-else-len
returns-else-len c =
    let inside = c.self.inside in
    let long = blobs-length 0 inside.ends inside.heap.items inside.validity.items c.self.invariant.long in
    sym (take_all c.args.len c.args.self.now (omega (arith, ap length c.self.view_is, long, c.self.invariant.long, inside.validity.ok, c.len.ensures)))
