use Rattle.vortex_capi.proofs.ParquetCalls.Told.{told_go, told_done}
use Rattle.vortex_capi.proofs.parquet.row_group.all_told.Goals as goal

pub loop-place-preserved : goal.loop-place-preserved
loop-place-preserved c =
    rw c.in_ok-push.ensures.items (told_go c.args.groups.now c.args.verdicts.now c.loop-place.told.items _ c.loop-place.place c.index-groups-place.result _ c.told_of.result c.loop-place-test.true c.requires c.index-groups-place.is c.told_of.ensures c.loop-place.invariant)

pub returns : goal.returns
returns c = told_done c.args.groups.now c.args.verdicts.now c.loop-place.told.items _ c.loop-place.place c.loop-place-test.false c.loop-place.invariant
