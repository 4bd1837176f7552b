use Rattle.std.proofs.Common.{◌∙◌}
use Rattle.vortex_prune.proofs.ZoneMaps.ZoneMarks.{marked_all, marked_more}
use Rattle.vortex_prune.specs.Scanning.Gaps.{are_passed_at}
use Rattle.vortex_prune.proofs.scan.search.keep_by_keys.Goals as goal

pub loop-k-preserved : goal.loop-k-preserved
loop-k-preserved g c =
    let a = c.args.asked in
    marked_more (are_passed_at c.args.gaps.now a.above.now a.below.now a.flag.now) c.args.from c.loop-k.k c.args.marks.now c.loop-k.marks c.stays_at.result c.loop-k.invariant c.loop-k-test.true c.stays_at.ensures

pub returns : goal.returns
returns g c =
    let a = c.args.asked in
    c.loop-k.invariant ∙ marked_all (are_passed_at c.args.gaps.now a.above.now a.below.now a.flag.now) c.args.from c.loop-k.k c.args.marks.now c.loop-k-test.false
