use Rattle.std.proofs.Common.{◌∙◌}
use Rattle.vortex_prune.proofs.Scanning.LikeLemmas.{marked_liked}
use Rattle.vortex_prune.proofs.scan.columns.keep_texts.Goals as goal

pub returns-in-Like : goal.returns-in-Like
returns-in-Like c = c.keep_like.ensures ∙ marked_liked c.in-Like.options c.in-Like.pattern c.args.texts.now c.args.column.now.values c.args.test c.args.from c.args.marks.now c.requires.same c.in-Like.is
