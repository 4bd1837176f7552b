-- What stands between the leaves of a condition.
use Rattle.std.specs.Prelude.{◌≡◌, ◌==◌, ◌||◌, ℕ, Bool, true, false, List, [], ◌∷◌, ◌++◌, slice_range}
use Rattle.std.specs.List.{list_any}
use Rattle.vortex_sql.specs.declared.syntax.tree.Leaf.{Leaf}
use Rattle.vortex_sql.specs.declared.syntax.tree.Condition.{Condition}
use Rattle.vortex_sql.specs.declared.syntax.tree.Condition.TheVariants.{Leaf as Leaf', Not', And', Or', IsNull', IsTrue', IsFalse'}

-- for each two neighbouring leaves of a condition, from the left: AND joins the parts that they stand in, and not OR
abbrev pub ands : Condition → List Bool
ands (Leaf' l) = []
ands (Not' p x) = ands x
ands (And' p x q y) = ands x ++ true ∷ ands y
ands (Or' p x q y) = ands x ++ false ∷ ands y
ands (IsNull' p x) = ands x
ands (IsTrue' p x) = ands x
ands (IsFalse' p x) = ands x

-- the bytes have a D, in whatever case: of the words that may stand between two leaves (AND, OR, NOT, IS, NULL, ISNULL, NOTNULL, TRUE, FALSE, UNKNOWN) AND alone has one
abbrev pub has_and : List ℕ → Bool
has_and bs = list_any (λ b. (b == 68) || (b == 100)) bs

-- before each leaf, behind a place or the leaf before it, stands AND exactly where that is told of it
abbrev pub Joins : List ℕ → ℕ → List Leaf → List Bool → Type 0
Joins text from [] ands = ands ≡ []
Joins text from (l ∷ ls) [] = ⊥
Joins text from (l ∷ ls) (a ∷ ands) = (has_and (slice_range text from l.start) ≡ a) × Joins text l.end ls ands

-- where the last leaf ends, or a place if there is none
abbrev pub end_behind : ℕ → List Leaf → ℕ
end_behind from [] = from
end_behind from (l ∷ ls) = end_behind l.end ls
