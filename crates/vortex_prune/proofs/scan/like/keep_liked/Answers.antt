use Rattle.std.proofs.Common.{◌∙◌}
use Rattle.vortex_prune.proofs.ZoneMaps.ZoneMarks.{marked_all, marked_more}
use Rattle.vortex_prune.specs.Scanning.Likes.{is_liked_at}
use Rattle.vortex_prune.proofs.scan.like.keep_liked.Goals as goal

pub loop-k-preserved : goal.loop-k-preserved
loop-k-preserved c = marked_more (is_liked_at c.args.options c.args.pattern.now c.args.texts.now) c.args.from c.loop-k.k c.args.marks.now c.loop-k.marks c.stays_liked.result c.loop-k.invariant c.loop-k-test.true c.stays_liked.ensures

pub returns : goal.returns
returns c = c.loop-k.invariant ∙ marked_all (is_liked_at c.args.options c.args.pattern.now c.args.texts.now) c.args.from c.loop-k.k c.args.marks.now c.loop-k-test.false
