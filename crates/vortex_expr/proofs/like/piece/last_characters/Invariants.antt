use Rattle.std.proofs.Common.{◌≡◌, ◌≤◌, Bool, true, List, ℕ, length, drop}
use Rattle.vortex_expr.specs.Patterns.Like.{some_end}
use Rattle.vortex_expr.specs.Patterns.LikeSearch.{characters}
use Rattle.vortex_expr.proofs.like.piece.last_characters.Given as goal

-- no end that was passed over has the length
abbrev pub invariant-loop-ahead_rest : goal.invariant-loop-ahead_rest
invariant-loop-ahead_rest l = record {
  same : (test : List ℕ → Bool) → ((ds : List ℕ) → test ds ≡ true → length ds ≡ l.count) → some_end test (characters l.text) ≡ some_end test (characters l.initial.text);
  shorter : length (characters l.text) ≤ length (characters l.initial.text);
  ahead : characters l.ahead ≡ drop l.count (characters l.text);
}

abbrev pub decreases-loop-ahead_rest : goal.decreases-loop-ahead_rest
decreases-loop-ahead_rest l = length (characters l.text)
