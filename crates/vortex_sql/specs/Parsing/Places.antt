-- Where the leaves of a condition stand.
use Rattle.std.specs.Prelude.{ℕ, ◌≤◌, ◌<◌, ◌&&◌, List, [], ◌∷◌, ◌++◌, length, nat_le, slice_range, if◌then◌else◌}
use Rattle.vortex_sql.specs.declared.syntax.tree.Leaf.{Leaf}
use Rattle.vortex_sql.specs.declared.syntax.tree.Condition.{Condition}
use Rattle.vortex_sql.specs.declared.syntax.tree.Condition.TheVariants.{Leaf as Leaf', Not', And', Or', IsNull', IsTrue', IsFalse'}

-- the leaves of a condition, from the left
abbrev pub leaves : Condition → List Leaf
leaves (Leaf' l) = l ∷ []
leaves (Not' p x) = leaves x
leaves (And' p x q y) = leaves x ++ leaves y
leaves (Or' p x q y) = leaves x ++ leaves y
leaves (IsNull' p x) = leaves x
leaves (IsTrue' p x) = leaves x
leaves (IsFalse' p x) = leaves x

-- each leaf has a byte at least and ends before the next one begins; the first begins at one place or behind it, and the last ends at the other or before it
abbrev pub Ascends : ℕ → List Leaf → ℕ → Type 0
Ascends from [] to = from ≤ to
Ascends from (l ∷ ls) to = (from ≤ l.start) × (l.start < l.end) × Ascends l.end ls to

-- the bytes from one place up to another, or none where these are no two places of the text in their order
abbrev pub bytes_between : List ℕ → ℕ → ℕ → List ℕ
bytes_between text start end = if nat_le start end && nat_le end (length text) then slice_range text start end else []
