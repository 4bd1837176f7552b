use Rattle.std.proofs.Common.{◌≡◌, ◌+◌, ◌≤◌, true, List, ℕ, length, drop}
use Rattle.vortex_expr.specs.Patterns.Like.{items, like}
use Rattle.vortex_expr.specs.Patterns.LikeSearch.{characters}
use Rattle.vortex_expr.specs.Patterns.Prefix.{literal_prefix}
use Rattle.vortex_expr.proofs.like.piece.read_piece.Given as goal

-- what the items match begins with as many characters as were read
abbrev pub invariant-loop-item : goal.invariant-loop-item
invariant-loop-item l = record {
  like : (ds : List ℕ) → like (items (characters l.initial.pattern)) ds ≡ true → (l.count ≤ length ds) × (like (items (characters l.pattern)) (drop l.count ds) ≡ true);
  letters : l.only_letters ≡ true → l.count + length (literal_prefix (items (characters l.pattern))) ≡ length (literal_prefix (items (characters l.initial.pattern)));
  room : l.count + length (characters l.text) ≡ length (characters l.initial.text);
}

abbrev pub decreases-loop-item : goal.decreases-loop-item
decreases-loop-item l = length (characters l.pattern)
