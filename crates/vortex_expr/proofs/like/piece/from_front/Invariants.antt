use Rattle.std.proofs.Common.{◌≡◌, ◌≤◌, length}
use Rattle.vortex_expr.specs.Patterns.Like.{items, like, some_end}
use Rattle.vortex_expr.specs.Patterns.LikeSearch.{characters}
use Rattle.vortex_expr.proofs.like.piece.from_front.Given as goal

-- no match begins in what was passed over
abbrev pub invariant-loop-text : goal.invariant-loop-text
invariant-loop-text l = record {
  same : some_end (like (items (characters l.pattern))) (characters l.text) ≡ some_end (like (items (characters l.pattern))) (characters l.initial.text);
  shorter : length (characters l.text) ≤ length (characters l.initial.text);
}

abbrev pub decreases-loop-text : goal.decreases-loop-text
decreases-loop-text l = length (characters l.text)
