use Rattle.vortex_predicates.proofs.Footers.RangeLoops.{verdicts_done, verdicts_go}
use Rattle.vortex_predicates.proofs.parquet.page_ranges.by_groups.Goals as goal

pub loop-place-preserved : goal.loop-place-preserved
loop-place-preserved c =
    rw c.in_ok-push.ensures.items
    (verdicts_go c.args.groups.now c.args.ranges.now c.args.own.now c.loop-place.verdicts.items _ c.loop-place.place _ _ c.by_group.result c.verdict_at-group.result c.loop-place-test.true c.requires c.verdict_at-group.ensures
    c.by_group.ensures c.loop-place.invariant)

pub returns : goal.returns
returns c = verdicts_done c.args.groups.now c.args.ranges.now c.args.own.now c.loop-place.verdicts.items _ c.loop-place.place c.loop-place-test.false c.loop-place.invariant
