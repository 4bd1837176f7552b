-- Boxes that go far enough for a test: those whose sides lie beyond all that it compares where bounds aren't known, and those of known bounds.
use Rattle.std.specs.Prelude.{◌≢◌, List, [], ◌∷◌, ◌++◌, IsTrue, MatchOption, slice_get}
use Rattle.std.specs.List.{AllByRecursion}
use Rattle.vortex_expr.specs.Trees.Tree.{Tree, Place, binary, between}
use Rattle.vortex_expr.specs.declared.scalar_fn.Operator.{Operator}
use Rattle.vortex_expr.specs.declared.scalar_fn.Operator.TheVariants.{Lt, And, Or}
use Rattle.vortex_predicates.specs.NullBoxes.{NullBox, goes_far, is_met_if_open, is_null_apart}
use Rattle.vortex_zone_map.specs.Zone.{ZoneData}
use Rattle.vortex_prune.specs.Scanning.Complete.{IsKnownBy}
use Rattle.vortex_rewrite.specs.Rewriting.ReadOnce.{columns_of}

abbrev pub compared_by : Operator → (l r : Tree Place) → (sides : List (Tree Place)) → List (Tree Place)
compared_by And l r sides = sides
compared_by Or l r sides = sides
compared_by o l r sides = l ∷ r ∷ []

-- the columns and literals that a test compares
abbrev pub operands_of : (test : Tree Place) → List (Tree Place)
operands_of (binary o l r) = compared_by o l r (operands_of l ++ operands_of r)
operands_of (between o x l u) = x ∷ l ∷ u ∷ []
operands_of e = []

-- of any two operands, the least value of the one is below the greatest of the other wherever either isn't known
abbrev pub IsBeyond : ZoneData → NullBox → (operands : List (Tree Place)) → Type 0
IsBeyond zone box es = AllByRecursion (λ x. AllByRecursion (λ y. x ≢ y → IsTrue (is_met_if_open zone box Lt x y)) es) es

-- such a box goes far enough
abbrev pub BeyondGoesFar : Type 0
BeyondGoesFar = (zone : ZoneData) (box : NullBox) (test : Tree Place) → IsTrue (is_null_apart test) → IsBeyond zone box (operands_of test) → IsTrue (goes_far zone box test)

-- both bounds of a column are known and the box's, unless every cell is null
abbrev pub IsBounded : ZoneData → NullBox → Place → Type 0
IsBounded zone box c = box.nulls c.index ≢ zone.rows → MatchOption (slice_get zone.stats c.index) ⊥ (IsKnownBy box.bounds c.index)

-- of known bounds no side is asked to go further
abbrev pub BoundedGoesFar : Type 0
BoundedGoesFar = (zone : ZoneData) (box : NullBox) (test : Tree Place) → AllByRecursion (IsBounded zone box) (columns_of test) → IsTrue (goes_far zone box test)
