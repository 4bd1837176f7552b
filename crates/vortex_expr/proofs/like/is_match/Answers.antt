use Rattle.std.proofs.Common.{sym, ◌∙◌, ap}
use Rattle.vortex_expr.specs.Patterns.Like.{items}
use Rattle.vortex_expr.specs.Patterns.LikeSearch.{characters}
use Rattle.vortex_expr.proofs.Patterns.LikeStops.{like-stop, outcome}
use Rattle.vortex_expr.proofs.like.is_match.Goals as goal

pub returns-in-Mismatch : goal.returns-in-Mismatch
returns-in-Mismatch c =
    ap outcome c.in-Mismatch.ensures ∙ sym (like-stop (items (characters c.args.pattern)) (characters c.args.text))

pub returns-in-Whole : goal.returns-in-Whole
returns-in-Whole c =
    ap outcome c.in-Whole.ensures ∙ sym (like-stop (items (characters c.args.pattern)) (characters c.args.text))

pub returns-in-BeforeRun : goal.returns-in-BeforeRun
returns-in-BeforeRun c =
    c.is_match_at_some_end.ensures ∙ ap outcome c.in-BeforeRun.ensures ∙ sym (like-stop (items (characters c.args.pattern)) (characters c.args.text))
