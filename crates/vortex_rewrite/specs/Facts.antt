-- What is true of the values of an input over the rows of a chunk: the facts that answer placeholders.
use Rattle.std.specs.Prelude.{◌≡◌, ℕ, ◌==◌, ℤ, Bool, false, not as not_b, ◌&&◌, List, Option, Some, None, Ok, IsTrue, MatchBool, map, length, slice_get, option_map, ⊤}
use Rattle.std.specs.List.{range_with_len}
use Rattle.vortex_base.specs.declared.aggregate.AggregateFnRef.{AggregateFnRef}
use Rattle.vortex_base.specs.declared.aggregate.AggregateFnRef.TheVariants.{Max, Min, Sum, NullCount, NanCount, UncompressedSizeInBytes, AllNull, AllNonNull, MinMax}
use Rattle.vortex_base.specs.declared.dtype.DType.{DType}
use Rattle.vortex_base.specs.declared.scalar_value.ScalarValue.{ScalarValue}
use Rattle.vortex_base.specs.declared.scalar_value.ScalarValue.TheVariants as value
use Rattle.vortex_base.specs.Data.Columns.{ColumnData, row_of, row_count as rows_of}
use Rattle.vortex_expr.specs.Meanings.Meaning.{meaning}
use Rattle.vortex_base.specs.Data.Scalars.{is_optional_value}
use Rattle.vortex_expr.specs.Trees.Tree.{Tree, Place, column, stat, all_columns, has_placeholder}
use Rattle.vortex_base.specs.Data.Types.{eq_ignore_nullability}
use Rattle.vortex_expr.specs.Meanings.Typing.{type_of}
use Rattle.vortex_base.specs.Data.Values.{number_of}
use Rattle.vortex_stats.specs.Sets.Claims.{NoneAbove, NoneBelow, null_count, present, sum_of, count_value}
use Rattle.vortex_rewrite.specs.Rewriting.Proof.{Assignment}

-- ---- inputs over columns

-- there is a column there, and it has this type, nullability aside
abbrev pub is_column_of : DType → Option ColumnData → Bool
is_column_of t None = false
is_column_of t (Some c) = eq_ignore_nullability c.dtype t

-- the columns of the expression have their places and types among these, nullability aside
abbrev pub suits : Tree Place → List ColumnData → Bool
suits e cs = all_columns (λ c. is_column_of c.dtype (slice_get cs c.index)) e

-- the expression can be read on each row: it has no placeholder, and its columns are among these
abbrev pub is_over : Tree Place → List ColumnData → Bool
is_over e cs = not_b (has_placeholder e) && suits e cs

-- the optional values of an expression over the rows
abbrev pub meanings : Tree Place → List ColumnData → List (Option ScalarValue)
meanings e cs = map (λ i. meaning e (row_of i cs) (rows_of cs)) (range_with_len 0 (rows_of cs))

-- the declared size of an input that is a column
abbrev pub size_of : Tree Place → List ColumnData → Option ℕ
size_of (column c) cs = option_map (λ d. d.size) (slice_get cs c.index)
size_of e cs = None

-- ---- facts

abbrev pub IsNumber : ScalarValue → ℤ → Type 0
IsNumber (value.Primitive p) n = number_of p ≡ n
IsNumber v n = ⊥

abbrev pub IsSize : ScalarValue → Option ℕ → Type 0
IsSize v None = ⊥
IsSize v (Some n) = v ≡ count_value n

-- what a value says of the optional values of an input and of its size, as the answer of an aggregate
abbrev pub Says : AggregateFnRef → ScalarValue → List (Option ScalarValue) → Option ℕ → Type 0
Says Max v xs size = NoneAbove v xs
Says Min v xs size = NoneBelow v xs
Says Sum v xs size = IsNumber v (sum_of (present xs))
Says NullCount v xs size = v ≡ count_value (null_count xs)
Says UncompressedSizeInBytes v xs size = IsSize v size
Says AllNull v xs size = v ≡ value.Bool (null_count xs == length xs)
Says AllNonNull v xs size = v ≡ value.Bool (null_count xs == 0)
Says NanCount v xs size = ⊥
Says MinMax v xs size = ⊥

-- the answer is a fact; null is a fact of everything
abbrev pub IsFact : AggregateFnRef → Option ScalarValue → List (Option ScalarValue) → Option ℕ → Type 0
IsFact f None xs size = ⊤
IsFact f (Some v) xs size = Says f v xs size

-- the assignment is honest for columns: each answer is a fact of them, and may stand under its placeholder's type;
-- for an input that has a placeholder, or a column that is not among them, null alone is a fact
pub record IsHonest (A : Assignment) (cs : List ColumnData) : Type 0 where
  pub facts : (f : AggregateFnRef) (x : Tree Place) →
      MatchBool (is_over x cs) (IsFact f (A f x) (meanings x cs) (size_of x cs)) (A f x ≡ None)
  pub types : (f : AggregateFnRef) (x : Tree Place) (t : DType) →
      type_of (stat f x) ≡ Ok t → IsTrue (is_optional_value (A f x) t)
