use Rattle.vortex_parquet.specs.Stretches.{head_set as head_set_in, paged_view}
use Rattle.vortex_parquet.proofs.Views.{map_done, map_goes}
use Rattle.vortex_parquet.proofs.stretches.head_sets.Goals as goal

pub loop-place-preserved : goal.loop-place-preserved
loop-place-preserved c = rw c.in_ok-push.ensures.items (map_goes paged_view (head_set_in c.args.rows) c.args.columns.now c.loop-place.sets.items c.loop-place.place _ c.in_ok-head_set.field-0 c.loop-place-test.true c.in_ok-head_set.ensures c.loop-place.invariant)

pub returns : goal.returns
returns c = map_done paged_view (head_set_in c.args.rows) c.args.columns.now c.loop-place.sets.items c.loop-place.place c.loop-place-test.false c.loop-place.invariant
