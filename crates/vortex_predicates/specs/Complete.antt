-- The predicates for which pruning by built-in rules is complete.
use Rattle.std.specs.Prelude.{◌≡◌, ℕ, Bool, false, ◌&&◌, ◌||◌, List, Option, Some, None, IsTrue}
use Rattle.std.specs.BTreeSet.{BTreeSet, contains}
use Rattle.std.specs.Ordering.{nat_cmp}
use Rattle.vortex_expr.specs.Trees.Tree.{Tree, Place}
use Rattle.vortex_normal.specs.Groups.{normal}
use Rattle.vortex_predicates.specs.Pruning.{is_within}
use Rattle.vortex_rewrite.specs.Rewriting.ReadOnce.{has_index, has_disjoint_ands}

-- the predicate as it is, or its normal form, unless that has more levels, is a tree of AND and OR over comparisons, ranges and truths in which the sides of no AND share a column
abbrev pub is_decided : (levels : Option ℕ) → Tree Place → Bool
is_decided levels p = has_disjoint_ands p || (is_within levels (normal p) && has_disjoint_ands (normal p))

-- ---- the columns of such a tree, as a set of places

-- the set has the places of these columns, and no other
abbrev pub HasIndexesOf : List Place → BTreeSet ℕ → Type 0
HasIndexesOf cs s = (i : ℕ) → contains nat_cmp s i ≡ has_index i cs

-- a set of them if bounds decide, and else none
abbrev pub AreIndexesIf : (decided : Bool) → List Place → Option (BTreeSet ℕ) → Type 0
AreIndexesIf d cs None = d ≡ false
AreIndexesIf d cs (Some s) = IsTrue d × HasIndexesOf cs s
