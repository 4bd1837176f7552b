use Rattle.std.proofs.lemmas.Result.{err_from_is_err_and}
use Rattle.vortex_capi.specs.Merges.{merged_set}
use Rattle.vortex_capi.proofs.ReadLemmas.{found_stops}
use Rattle.vortex_capi.proofs.merge.merged_sets.Goals as goal

pub returns-in_err-merged_set : goal.returns-in_err-merged_set
returns-in_err-merged_set c =
    let p = err_from_is_err_and c.from_residual-in_err-merged_set.result c.from_residual-in_err-merged_set.ensures.1 in
    rw (p.1, p.2)
    (λ not_memory.
    found_stops (merged_set c.args.dtype c.args.left.now c.args.right.now) c.loop-zone.zone c.args.zones c.loop-zone.sets.items _ c.loop-zone.invariant (c.in_err-merged_set.ensures not_memory) c.loop-zone-test.true)
