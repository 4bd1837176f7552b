use Rattle.vortex_prune.proofs.Honesty.PartLemmas.{other_set_fits, part_set_fits}
use Rattle.vortex_prune.proofs.part.join.merged_set.Goals as goal

pub merge_ordered-requires-clause-left_fits : goal.merge_ordered-requires-clause-left_fits
merge_ordered-requires-clause-left_fits c =
    rw (c.in_ok-set.ensures.value, c.dtype-dtype.ensures.value)
    (part_set_fits c.args.left.now c.args.i c.column.result.now c.stats.result.now c.chunk.ensures.is_part (rw c.chunk.ensures.value at c.column.ensures) c.stats.ensures.value)

pub merge_ordered-requires-clause-other_fits : goal.merge_ordered-requires-clause-other_fits
merge_ordered-requires-clause-other_fits c =
    rw c.dtype-dtype.ensures.value
    (other_set_fits c.args.left.now c.args.right.now c.args.i c.column.result.now c.stats-other.result.now c.chunk.ensures.is_part c.stats-other.ensures.is_part c.requires.scope
    (rw c.chunk.ensures.value at c.column.ensures) c.stats-other.ensures.value)
