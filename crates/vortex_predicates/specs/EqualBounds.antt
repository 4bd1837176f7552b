-- Proofs of LIKE for a column that has one value alone: its least value is its greatest.
use Rattle.std.specs.Prelude.{◌≡◌, ℕ, Bool, true, false, not as not_b, ◌||◌, List, [], ◌∷◌, Option, Some, None, IsTrue, if◌then◌else◌}
use Rattle.vortex_base.specs.Data.Scalars.{Constant}
use Rattle.vortex_base.specs.declared.aggregate.AggregateFnRef.TheVariants.{Max, Min}
use Rattle.vortex_base.specs.declared.scalar_value.ScalarValue.TheVariants as value
use Rattle.vortex_expr.specs.Patterns.Like.{matches}
use Rattle.vortex_expr.specs.Trees.Tree.{Tree, Place, column, literal, binary, like, stat}
use Rattle.vortex_expr.specs.declared.like.LikeOptions.{LikeOptions}
use Rattle.vortex_expr.specs.declared.scalar_fn.Operator.{Operator}
use Rattle.vortex_expr.specs.declared.scalar_fn.Operator.TheVariants.{And, Eq, Or}
use Rattle.vortex_predicates.specs.Joint.{joint}
use Rattle.vortex_prune.specs.Scanning.Selection.{proves_of}
use Rattle.vortex_rewrite.specs.Rewriting.Falsifiers.{both_of, falsifier}
use Rattle.vortex_rewrite.specs.Rewriting.Lawful.{OwnRule}
use Rattle.vortex_rewrite.specs.Rewriting.Proof.{Assignment}

-- ---- one LIKE

-- a LIKE that is true of two texts exactly if the other isn't
abbrev pub opposite : LikeOptions → LikeOptions
opposite o = record { negated = not_b o.negated; case_insensitive = o.case_insensitive }

-- the operands of a LIKE are a column and a literal
abbrev pub is_column_like : (text pattern : Tree Place) → Bool
is_column_like (column c) (literal d) = true
is_column_like x p = false

-- the bounds of an operand are equal
abbrev pub equal_bounds : Tree Place → Tree Place
equal_bounds x = binary Eq (stat Min x) (stat Max x)

-- no row satisfies a LIKE of a column that has one value alone, of which the opposite LIKE is true
abbrev pub value_proof : LikeOptions → (text pattern : Tree Place) → Option (Tree Place)
value_proof o x p = if is_column_like x p then Some (binary And (equal_bounds x) (like (opposite o) (stat Min x) p)) else None

-- ---- predicates

-- such a LIKE is among the leaves that AND and OR join
abbrev pub has_column_like : Tree Place → Bool
has_column_like (binary And l r) = has_column_like l || has_column_like r
has_column_like (binary Or l r) = has_column_like l || has_column_like r
has_column_like (like o x p) = is_column_like x p
has_column_like e = false

-- a connective by the proofs of its sides; a comparison by the rules
abbrev pub sides_proof : List OwnRule → Operator → (l r : Tree Place) → (left right : Option (Tree Place)) → Option (Tree Place)
sides_proof own And l r f g = joint f g
sides_proof own Or l r f g = both_of (binary And) f g
sides_proof own o l r f g = falsifier own (binary o l r)

-- no row satisfies a predicate: by the rules at its leaves, and at LIKEs by the one value of their column too
abbrev pub leaf_proof : List OwnRule → Tree Place → Option (Tree Place)
leaf_proof own (binary o l r) = sides_proof own o l r (leaf_proof own l) (leaf_proof own r)
leaf_proof own (like o x p) = joint (falsifier own (like o x p)) (value_proof o x p)
leaf_proof own e = falsifier own e

-- by what the rules prove and by this; without rules of a user the latter has what the former has
abbrev pub joint_unless_built_in : List OwnRule → (by_rules by_leaves : Option (Tree Place)) → Option (Tree Place)
joint_unless_built_in [] f g = g
joint_unless_built_in (rule ∷ rules) f g = joint f g

-- by the rules alone where there is no such LIKE
abbrev pub form_proof : List OwnRule → Tree Place → Option (Tree Place)
form_proof own e = if has_column_like e then joint_unless_built_in own (falsifier own e) (leaf_proof own e) else falsifier own e

-- ---- what is told

-- of a column whose bounds are one text, of which a LIKE isn't true, the proof by the built-in rules is true
abbrev pub OneTextIsTold : Type 0
OneTextIsTold =
    (o : LikeOptions) (c : Place) (d : Constant) (text pattern : List ℕ) (A : Assignment) (n : ℕ) → A Min (column c) ≡ Some (value.Utf8 text) → A Max (column c) ≡ Some (value.Utf8 text) →
    d.value ≡ Some (value.Utf8 pattern) → matches o pattern text ≡ false → IsTrue (proves_of (form_proof [] (like o (column c) (literal d))) n A)
