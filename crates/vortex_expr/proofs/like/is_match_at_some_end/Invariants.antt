use Rattle.std.proofs.Common.{◌≡◌, ◌+◌, length}
use Rattle.vortex_expr.specs.Patterns.Like.{items, like, some_end}
use Rattle.vortex_expr.specs.Patterns.LikeSearch.{characters}
use Rattle.vortex_expr.proofs.like.is_match_at_some_end.Given as goal

-- whether what is left matches at some end tells whether the whole does
abbrev pub invariant-loop-next : goal.invariant-loop-next
invariant-loop-next l =
    some_end (like (items (characters l.pattern))) (characters l.text) ≡ some_end (like (items (characters l.initial.pattern))) (characters l.initial.text)

abbrev pub decreases-loop-next : goal.decreases-loop-next
decreases-loop-next l = length (items (characters l.pattern)) + length (characters l.text)
