use Rattle.std.proofs.Common.{◌∙◌}
use Rattle.vortex_prune.proofs.ZoneMaps.ZoneMarks.{marked_all, marked_more}
use Rattle.vortex_prune.specs.Scanning.Gaps.{is_untrue_at}
use Rattle.vortex_prune.proofs.scan.marks.drop_rows.Goals as goal

pub loop-k-preserved : goal.loop-k-preserved
loop-k-preserved c = marked_more (is_untrue_at c.args.e.now c.args.table.chunk.now.columns c.args.table.counts) c.args.from c.loop-k.k c.args.marks.now c.loop-k.marks c.is_left_on.result c.loop-k.invariant c.loop-k-test.true c.is_left_on.ensures

pub returns : goal.returns
returns c = c.loop-k.invariant ∙ marked_all (is_untrue_at c.args.e.now c.args.table.chunk.now.columns c.args.table.counts) c.args.from c.loop-k.k c.args.marks.now c.loop-k-test.false
