use Rattle.std.proofs.Common.{◌∙◌}
use Rattle.vortex_prune.proofs.ZoneMaps.ZoneMarks.{marked_all, marked_more}
use Rattle.vortex_prune.specs.Scanning.Leaves.{passes_at}
use Rattle.vortex_prune.proofs.scan.columns.keep_values.Goals as goal

pub loop-k-preserved : goal.loop-k-preserved
loop-k-preserved c = marked_more (passes_at c.args.test c.args.column.now.values) c.args.from c.loop-k.k c.args.marks.now c.loop-k.marks c.stays_by.result c.loop-k.invariant c.loop-k-test.true c.stays_by.ensures

pub returns : goal.returns
returns c = c.loop-k.invariant ∙ marked_all (passes_at c.args.test c.args.column.now.values) c.args.from c.loop-k.k c.args.marks.now c.loop-k-test.false
