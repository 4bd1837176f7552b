-- What a statistic claims of a column, and when a set is true of it.
use Rattle.std.specs.Prelude.{◌≡◌, ◌≤◌, ℕ, ◌+◌, ℤ, pos, ◌+ℤ◌, Bool, true, not, ◌&&◌, List, [], ◌∷◌, Option, Some, IsTrue, Contains, IsPermutation, count_by, is_none, ⊤}
use Rattle.std.specs.List.{filter_map, list_all}
use Rattle.std.specs.Ordering.{is_lt, is_gt}
use Rattle.vortex_base.specs.declared.pvalue.PValue.TheVariants as number
use Rattle.vortex_base.specs.declared.scalar_value.ScalarValue.{ScalarValue}
use Rattle.vortex_base.specs.declared.scalar_value.ScalarValue.TheVariants as value
use Rattle.vortex_base.specs.Data.Columns.{ColumnData}
pub use Rattle.vortex_base.specs.Data.Columns.{appended}
use Rattle.vortex_base.specs.Data.Scalars.{optional_value_eq}
use Rattle.vortex_base.specs.Data.Values.{value_cmp, whole}
use Rattle.vortex_stats.specs.declared.stat.Stat.{Stat}
use Rattle.vortex_stats.specs.declared.stat.Stat.TheVariants.{IsConstant, IsSorted, IsStrictSorted, Max, Min, Sum, NullCount, UncompressedSizeInBytes, NaNCount}
use Rattle.vortex_stats.specs.declared.precision.Precision.{Precision}
use Rattle.vortex_stats.specs.declared.precision.Precision.TheVariants.{Exact, Inexact, Absent}
use Rattle.vortex_stats.specs.Bounds.Order.{AtMost}
use Rattle.vortex_stats.specs.Sets.Entries.{entry_value, entries_fit}

-- ---- a column's list of optional values, None being null

-- no value is greater than v
abbrev pub NoneAbove : ScalarValue → List (Option ScalarValue) → Type 0
NoneAbove v xs = (w : ScalarValue) → Contains xs (Some w) → AtMost value_cmp w v

-- no value is less than v
abbrev pub NoneBelow : ScalarValue → List (Option ScalarValue) → Type 0
NoneBelow v xs = (w : ScalarValue) → Contains xs (Some w) → AtMost value_cmp v w

-- the values in order, nulls left out
abbrev pub present : List (Option ScalarValue) → List ScalarValue
present xs = filter_map (λ x. x) xs

-- how many are null
abbrev pub null_count : List (Option ScalarValue) → ℕ
null_count xs = count_by is_none xs

-- the sum of the values, a true counting 1
abbrev pub sum_of : List ScalarValue → ℤ
sum_of [] = pos 0
sum_of (v ∷ vs) = whole v +ℤ sum_of vs

-- all optional values are equal
abbrev pub is_constant : List (Option ScalarValue) → Bool
is_constant [] = true
is_constant (x ∷ xs) = list_all (λ y. optional_value_eq x y) xs

-- each value is at most the next
abbrev pub is_sorted : List ScalarValue → Bool
is_sorted [] = true
is_sorted (v ∷ []) = true
is_sorted (v ∷ w ∷ vs) = not (is_gt (value_cmp v w)) && is_sorted (w ∷ vs)

-- each value is less than the next
abbrev pub is_strict_sorted : List ScalarValue → Bool
is_strict_sorted [] = true
is_strict_sorted (v ∷ []) = true
is_strict_sorted (v ∷ w ∷ vs) = is_lt (value_cmp v w) && is_strict_sorted (w ∷ vs)

-- ---- claims

-- a count as a value
abbrev pub count_value : ℕ → ScalarValue
count_value n = value.Primitive (number.U64 n)

-- Exact is the value of a test, and Inexact claims nothing
abbrev pub ClaimsTruth : Precision ScalarValue → Bool → Type 0
ClaimsTruth (Exact v) b = v ≡ value.Bool b
ClaimsTruth (Inexact v) b = ⊤
ClaimsTruth Absent b = ⊤

-- Exact is the count, and Inexact is at least it
abbrev pub ClaimsCount : Precision ScalarValue → ℕ → Type 0
ClaimsCount (Exact v) n = v ≡ count_value n
ClaimsCount (Inexact v) n = (m : ℕ) × (v ≡ count_value m) × (n ≤ m)
ClaimsCount Absent n = ⊤

-- Exact is the greatest value, and Inexact is at least every value
abbrev pub ClaimsMax : Precision ScalarValue → List (Option ScalarValue) → Type 0
ClaimsMax (Exact v) xs = Contains xs (Some v) × NoneAbove v xs
ClaimsMax (Inexact v) xs = NoneAbove v xs
ClaimsMax Absent xs = ⊤

-- Exact is the least value, and Inexact is at most every value
abbrev pub ClaimsMin : Precision ScalarValue → List (Option ScalarValue) → Type 0
ClaimsMin (Exact v) xs = Contains xs (Some v) × NoneBelow v xs
ClaimsMin (Inexact v) xs = NoneBelow v xs
ClaimsMin Absent xs = ⊤

-- Exact is the sum, a whole number of the sum's type, and Inexact claims nothing
abbrev pub ClaimsSum : Precision ScalarValue → ℤ → Type 0
ClaimsSum (Exact v) n = whole v ≡ n
ClaimsSum (Inexact v) n = ⊤
ClaimsSum Absent n = ⊤

-- what a statistic's value claims of a column; no count of NaNs fits a type that a column may have, so that claims nothing
abbrev pub Claims : Stat → Precision ScalarValue → ColumnData → Type 0
Claims IsConstant p c = ClaimsTruth p (is_constant c.values)
Claims IsSorted p c = ClaimsTruth p (is_sorted (present c.values))
Claims IsStrictSorted p c = ClaimsTruth p (is_strict_sorted (present c.values))
Claims Max p c = ClaimsMax p c.values
Claims Min p c = ClaimsMin p c.values
Claims Sum p c = ClaimsSum p (sum_of (present c.values))
Claims NullCount p c = ClaimsCount p (null_count c.values)
Claims UncompressedSizeInBytes p c = ClaimsCount p c.size
Claims NaNCount p c = ⊤

-- the set fits the column's type, and the claim of each of its entries holds: their statistics being distinct, each is the one that is looked up
pub record IsTrueOf (entries : List (Stat × Precision ScalarValue)) (column : ColumnData) : Type 0 where
  pub fits : IsTrue (entries_fit entries column.dtype)
  pub claims : (s : Stat) → Claims s (entry_value s entries) column

-- ---- columns made of columns

-- the same type and size, and the same optional values in another order
pub record IsReordered (c d : ColumnData) : Type 0 where
  pub dtype : d.dtype ≡ c.dtype
  pub values : IsPermutation c.values d.values
  pub size : d.size ≡ c.size
