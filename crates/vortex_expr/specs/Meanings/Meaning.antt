-- What an expression means on a row: a value, or null.
use Rattle.std.specs.Prelude.{◌≡◌, ℕ, ◌<◌, ◌^◌, IsTrue, Bool, true, false, not as not_b, Option, Some, None, List, Result, Ok, Err, if◌then◌else◌, slice_get, is_none, option_map}
use Rattle.std.specs.declared.cmp.Ordering.{Ordering}
use Rattle.std.specs.Ordering.{is_lt, is_eq, is_gt}
use Rattle.vortex_base.specs.declared.dtype.DType.{DType}
use Rattle.vortex_base.specs.declared.pvalue.PValue.TheVariants as number
use Rattle.vortex_base.specs.declared.scalar_value.ScalarValue.{ScalarValue}
use Rattle.vortex_base.specs.declared.scalar_value.ScalarValue.TheVariants as value
use Rattle.vortex_base.specs.declared.error.BaseError.{BaseError}
use Rattle.vortex_base.specs.declared.error.BaseError.TheVariants.{Placeholder, RowShape}
use Rattle.vortex_expr.specs.declared.scalar_fn.Operator.{Operator}
use Rattle.vortex_expr.specs.declared.scalar_fn.Operator.TheVariants as operator
use Rattle.vortex_expr.specs.declared.scalar_fn.BetweenOptions.{BetweenOptions}
use Rattle.vortex_expr.specs.declared.like.LikeOptions.{LikeOptions}
use Rattle.vortex_base.specs.Data.Values.{value_cmp}
use Rattle.vortex_base.specs.Data.Types.{as_nullable, is_nullable}
use Rattle.vortex_base.specs.Data.Scalars.{Constant, is_optional_value}
use Rattle.vortex_base.specs.Data.Columns.{cell_value, IsRow}
use Rattle.vortex_expr.specs.Trees.Between.{to_operator}
use Rattle.vortex_expr.specs.Patterns.Like.{matches}
use Rattle.vortex_expr.specs.Trees.Tree.{Tree, Place, column, literal, binary, between, is_null, is_not_null, not, like, stat, row_count, has_placeholder}
use Rattle.vortex_expr.specs.Meanings.Typing.{type_of}
use Rattle.vortex_expr.specs.Meanings.Fitting.{fits_row, matches_row}

-- ---- truths of three values, None being null

-- false if either is false, true if both are true
abbrev pub both : Option Bool → Option Bool → Option Bool
both (Some false) b = Some false
both (Some true) b = b
both None (Some false) = Some false
both None (Some true) = None
both None None = None

-- true if either is true, false if both are false
abbrev pub either : Option Bool → Option Bool → Option Bool
either (Some true) b = Some true
either (Some false) b = b
either None (Some true) = Some true
either None (Some false) = None
either None None = None

abbrev pub opposite : Option Bool → Option Bool
opposite a = option_map not_b a

-- the truth that an optional value is; null, and a value of another kind, is none
abbrev pub truth : Option ScalarValue → Option Bool
truth (Some (value.Bool b)) = Some b
truth v = None

abbrev pub truth_value : Option Bool → Option ScalarValue
truth_value a = option_map value.Bool a

-- ---- comparisons

-- the order of two values is as the operator says
abbrev pub holds : Operator → Ordering → Bool
holds operator.Eq o = is_eq o
holds operator.NotEq o = not_b (is_eq o)
holds operator.Gt o = is_gt o
holds operator.Gte o = not_b (is_lt o)
holds operator.Lt o = is_lt o
holds operator.Lte o = not_b (is_gt o)
holds operator.And o = false
holds operator.Or o = false

-- what a test of two values gives, or null if either is null
abbrev pub unless_null : (ScalarValue → ScalarValue → Bool) → Option ScalarValue → Option ScalarValue → Option Bool
unless_null test (Some a) (Some b) = Some (test a b)
unless_null test a b = None

abbrev pub compared : Operator → Option ScalarValue → Option ScalarValue → Option Bool
compared o a b = unless_null (λ x y. holds o (value_cmp x y)) a b

abbrev pub applied : Operator → Option ScalarValue → Option ScalarValue → Option Bool
applied operator.And a b = both (truth a) (truth b)
applied operator.Or a b = either (truth a) (truth b)
applied o a b = compared o a b

-- lower op x and x op upper, each op as its end says
abbrev pub within : BetweenOptions → (x lower upper : Option ScalarValue) → Option Bool
within o x l u = both (compared (to_operator o.lower_strict) l x) (compared (to_operator o.upper_strict) x u)

-- a text matches a pattern; values of other kinds don't
abbrev pub is_like : LikeOptions → ScalarValue → ScalarValue → Bool
is_like o (value.Utf8 text) (value.Utf8 pattern) = matches o pattern text
is_like o a b = false

abbrev pub liked : LikeOptions → (text pattern : Option ScalarValue) → Option Bool
liked o a b = unless_null (is_like o) a b

-- ---- meaning

-- the optional value of a tree without placeholders on a row; n is the value of the row count
abbrev pub meaning : Tree Place → (row : List Constant) → (n : ℕ) → Option ScalarValue
meaning (column c) row n = cell_value (slice_get row c.index)
meaning (literal c) row n = c.value
meaning (binary o l r) row n = truth_value (applied o (meaning l row n) (meaning r row n))
meaning (between o x l u) row n = truth_value (within o (meaning x row n) (meaning l row n) (meaning u row n))
meaning (is_null x) row n = Some (value.Bool (is_none (meaning x row n)))
meaning (is_not_null x) row n = Some (value.Bool (not_b (is_none (meaning x row n))))
meaning (not x) row n = truth_value (opposite (truth (meaning x row n)))
meaning (like o x p) row n = truth_value (liked o (meaning x row n) (meaning p row n))
meaning (stat f x) row n = None
meaning row_count row n = Some (value.Primitive (number.U64 n))

-- a placeholder has no meaning, and a column has one only where the row has it
abbrev pub can_evaluate : Tree Place → List Constant → Result (Unit {0}) BaseError
can_evaluate e row =
    if has_placeholder e then Err Placeholder
    else (if fits_row e row then Ok tt else Err RowShape)

-- the row satisfies the expression: its meaning there is true
abbrev pub is_true : Option ScalarValue → Bool
is_true (Some (value.Bool b)) = b
is_true v = false

abbrev pub satisfies : Tree Place → (row : List Constant) → (n : ℕ) → Bool
satisfies e row n = is_true (meaning e row n)

-- an expression that has a type means a value of it or null, on every row that holds values of their types and that it fits
abbrev pub MeaningFits : Tree Place → (row : List Constant) → (n : ℕ) → Type 0
MeaningFits e row n = (t : DType) → type_of e ≡ Ok t → IsRow row → IsTrue (fits_row e row) → n < 2 ^ 64 → IsTrue (is_optional_value (meaning e row n) (as_nullable t))

-- an expression that has a type means a value of that very type on every row that it matches, and null only where the type has null
abbrev pub MeaningIsTyped : Tree Place → (row : List Constant) → (n : ℕ) → Type 0
MeaningIsTyped e row n = (t : DType) → type_of e ≡ Ok t → IsRow row → IsTrue (matches_row e row) → n < 2 ^ 64 → IsTrue (is_optional_value (meaning e row n) t)

abbrev pub NullOnlyWhereNullable : Tree Place → (row : List Constant) → (n : ℕ) → Type 0
NullOnlyWhereNullable e row n = (t : DType) → type_of e ≡ Ok t → IsRow row → IsTrue (matches_row e row) → n < 2 ^ 64 → meaning e row n ≡ None → IsTrue (is_nullable t)
