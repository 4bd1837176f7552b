-- Leaves of a predicate, which ask something of the values of one column.
use Rattle.std.specs.Prelude.{◌≡◌, ℕ, Bool, true, false, not as not_b, ◌&&◌, List, Option, Some, is_none, slice_get}
use Rattle.vortex_base.specs.declared.scalar_value.ScalarValue.{ScalarValue}
use Rattle.vortex_base.specs.declared.scalar_value.ScalarValue.TheVariants as value
use Rattle.vortex_expr.specs.declared.like.LikeOptions.{LikeOptions}
use Rattle.vortex_expr.specs.declared.scalar_fn.Operator.{Operator}
use Rattle.vortex_expr.specs.declared.scalar_fn.Operator.TheVariants as operator
use Rattle.vortex_base.specs.Data.ArrayData.{value_of}
use Rattle.vortex_base.specs.Data.Columns.{ColumnData, row_of, value_at}
use Rattle.vortex_base.specs.Data.Scalars.{Constant}
use Rattle.vortex_expr.specs.Meanings.Meaning.{compared, is_true, liked, meaning, satisfies, truth_value}
use Rattle.vortex_expr.specs.Trees.Tree.{Tree, Place}
use Rattle.vortex_prune.specs.declared.scan.leaf.Ends.{Ends}
use Rattle.vortex_prune.specs.declared.scan.leaf.Test.{Test}
use Rattle.vortex_prune.specs.declared.scan.leaf.Test.TheVariants.{Is, Like, Null, NotNull}

-- the operator compares its sides
abbrev pub is_comparison : Operator → Bool
is_comparison operator.And = false
is_comparison operator.Or = false
is_comparison o = true

-- the same comparison with its sides changed about
abbrev pub swapped : Operator → Operator
swapped operator.Gt = operator.Lt
swapped operator.Gte = operator.Lte
swapped operator.Lt = operator.Gt
swapped operator.Lte = operator.Gte
swapped o = o

-- the comparison of two optional values is true
abbrev pub compares : Operator → Option ScalarValue → Option ScalarValue → Bool
compares o a b = is_true (truth_value (compared o a b))

-- that of the optional value at a place with a value
abbrev pub compares_at : Operator → ScalarValue → List (Option ScalarValue) → ℕ → Bool
compares_at o v xs r = compares o (value_at (slice_get xs r)) (Some v)

-- the optional value at a place lies between two ends: it compares so with each
abbrev pub is_between_at : (lower upper : Operator) → (low high : ScalarValue) → List (Option ScalarValue) → ℕ → Bool
is_between_at o p v w xs r = compares_at o v xs r && compares_at p w xs r

-- the column's value at a place lies between the ends
abbrev pub lies_at : Ends → ℕ → Bool
lies_at e r = is_between_at e.lower e.upper (value_of e.low) (value_of e.high) e.column.now.values r

-- the match of an optional text with an optional pattern is true
abbrev pub likes : LikeOptions → (text pattern : Option ScalarValue) → Bool
likes o t p = is_true (truth_value (liked o t p))

-- an optional value passes
abbrev pub passes : Test → Option ScalarValue → Bool
passes (Is o v) x = compares o x (Some (value_of v))
passes (Like o p) x = likes o x (Some (value.Utf8 p.now))
passes Null x = is_none x
passes NotNull x = not_b (is_none x)

-- the one at a place does
abbrev pub passes_at : Test → List (Option ScalarValue) → ℕ → Bool
passes_at t vs r = passes t (value_at (slice_get vs r))

-- the expression is worth the column's value, on each row of the columns
abbrev pub IsColumnOf : List ColumnData → Tree Place → ColumnData → Type 0
IsColumnOf cs e c = (r n : ℕ) → meaning e (row_of r cs) n ≡ value_at (slice_get c.values r)

-- it is worth this value, on every row
abbrev pub IsValue : Tree Place → ScalarValue → Type 0
IsValue e v = (row : List Constant) (n : ℕ) → meaning e row n ≡ Some v

-- the comparison of two expressions is true on exactly those rows where the column's value passes
abbrev pub IsComparison : List ColumnData → Operator → (left right : Tree Place) → ColumnData → Test → Type 0
IsComparison cs o left right c t = (r n : ℕ) → compares o (meaning left (row_of r cs) n) (meaning right (row_of r cs) n) ≡ passes_at t c.values r

-- the match of a text with a pattern is true on exactly those rows where the column's value passes
abbrev pub IsLike : List ColumnData → LikeOptions → (text pattern : Tree Place) → ColumnData → Test → Type 0
IsLike cs o x p c t = (r n : ℕ) → likes o (meaning x (row_of r cs) n) (meaning p (row_of r cs) n) ≡ passes_at t c.values r

-- the expression is
abbrev pub IsLeaf : List ColumnData → Tree Place → ColumnData → Test → Type 0
IsLeaf cs e c t = (r n : ℕ) → satisfies e (row_of r cs) n ≡ passes_at t c.values r

-- the expression is true on exactly those rows where the column's value lies between the ends
abbrev pub IsBetween : List ColumnData → Tree Place → Ends → Type 0
IsBetween cs e ends = (r n : ℕ) → satisfies e (row_of r cs) n ≡ lies_at ends r
