use Rattle.std.proofs.Common.{[], ◌∙◌}
use Rattle.std.specs.Str.{chars}
use Rattle.vortex_expr.specs.Patterns.Like.{items}
use Rattle.vortex_prune.proofs.Scanning.LikeLemmas.{marked_read}
use Rattle.vortex_prune.specs.Scanning.Likes.{ends_in, within}
use Rattle.vortex_prune.proofs.scan.like.keep_read.Goals as goal

pub returns-in-Nothing : goal.returns-in-Nothing
returns-in-Nothing c = c.keep_begun.ensures ∙ marked_read c.args.negated [] c.args.pattern.now c.split_letters.result.0.now c.split_letters.result.1.now c.args.texts.now c.args.from c.args.marks.now c.split_letters.ensures c.in-Nothing.ensures

pub returns-in-Ends : goal.returns-in-Ends
returns-in-Ends c = c.keep_begun-in-Ends.ensures ∙ marked_read c.args.negated (ends_in (chars c.in-Ends.end.now)) c.args.pattern.now c.split_letters.result.0.now c.split_letters.result.1.now c.args.texts.now c.args.from c.args.marks.now c.split_letters.ensures c.in-Ends.ensures

pub returns-in-Within : goal.returns-in-Within
returns-in-Within c = c.keep_begun-in-Within.ensures ∙ marked_read c.args.negated (within (chars c.in-Within.part.now)) c.args.pattern.now c.split_letters.result.0.now c.split_letters.result.1.now c.args.texts.now c.args.from c.args.marks.now c.split_letters.ensures c.in-Within.ensures

pub returns-in-Other : goal.returns-in-Other
returns-in-Other c = c.keep_begun-in-Other.ensures ∙ marked_read c.args.negated (items (chars c.in-Other.rest.now)) c.args.pattern.now c.split_letters.result.0.now c.split_letters.result.1.now c.args.texts.now c.args.from c.args.marks.now c.split_letters.ensures c.in-Other.ensures
