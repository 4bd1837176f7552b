use Rattle.std.proofs.Common.{◌≡◌, length}
use Rattle.vortex_expr.specs.Patterns.Like.{items}
use Rattle.vortex_expr.specs.Patterns.LikeSearch.{characters, stop}
use Rattle.vortex_expr.proofs.like.match_items.Given as goal

-- the stop is that of what is left
abbrev pub invariant-loop-item : goal.invariant-loop-item
invariant-loop-item l =
    stop (items (characters l.pattern)) (characters l.text) ≡ stop (items (characters l.initial.pattern)) (characters l.initial.text)

abbrev pub decreases-loop-item : goal.decreases-loop-item
decreases-loop-item l = length (characters l.pattern)
