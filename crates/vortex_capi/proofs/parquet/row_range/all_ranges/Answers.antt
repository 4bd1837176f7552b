use Rattle.vortex_capi.proofs.ParquetCalls.RangesTold.{ranges_done, ranges_go}
use Rattle.vortex_capi.proofs.parquet.row_range.all_ranges.Goals as goal

pub loop-place-preserved : goal.loop-place-preserved
loop-place-preserved c =
    rw c.in_ok-push.ensures.items (ranges_go c.args.ranges.now c.args.verdicts.now c.loop-place.told.items _ c.loop-place.place _ _ c.told_range.result c.loop-place-test.true c.requires c.told_range.ensures c.loop-place.invariant)

pub returns : goal.returns
returns c = ranges_done c.args.ranges.now c.args.verdicts.now c.loop-place.told.items _ c.loop-place.place c.loop-place-test.false c.loop-place.invariant
