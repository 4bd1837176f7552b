use Rattle.std.proofs.Common.{◌++◌, ◌∙◌}
use Rattle.std.specs.Str.{chars}
use Rattle.vortex_prune.proofs.ZoneMaps.ZoneMarks.{marked_all, marked_more}
use Rattle.vortex_prune.specs.Scanning.Likes.{letters, passes_items_at}
use Rattle.vortex_prune.proofs.scan.like.keep_begun.Goals as goal

pub loop-k-preserved : goal.loop-k-preserved
loop-k-preserved g c = marked_more (passes_items_at c.args.negated (letters (chars c.args.front.now) ++ g.T.Tail.items c.args.tail.now) c.args.texts.now) c.args.from c.loop-k.k c.args.marks.now c.loop-k.marks c.stays_begun.result c.loop-k.invariant c.loop-k-test.true c.stays_begun.ensures

pub returns : goal.returns
returns g c = c.loop-k.invariant ∙ marked_all (passes_items_at c.args.negated (letters (chars c.args.front.now) ++ g.T.Tail.items c.args.tail.now) c.args.texts.now) c.args.from c.loop-k.k c.args.marks.now c.loop-k-test.false
