use Rattle.vortex_parquet.proofs.StretchLoops.{moved_done, moved_goes}
use Rattle.vortex_parquet.proofs.stretches.advance.Goals as goal

pub loop-place-preserved : goal.loop-place-preserved
loop-place-preserved c = moved_goes c.args.row c.loop-place.place c.args.columns.now c.loop-place.columns _ c.behind.result c.loop-place-test.true c.loop-place.auto.columns c.behind.ensures c.loop-place.invariant

pub returns : goal.returns
returns c = moved_done c.args.row c.loop-place.place c.args.columns.now c.loop-place.columns c.loop-place-test.false c.loop-place.auto.columns c.loop-place.invariant
