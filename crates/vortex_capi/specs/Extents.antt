-- The least and the greatest value of a column, and how many rows are null.
use Rattle.std.specs.Prelude.{◌≡◌, ◌≤◌, ℕ, Bool, true, false, List, [], Option, Some, Result, Ok, Contains, MatchOption, option_map}
use Rattle.std.specs.declared.cmp.Ordering.{Ordering}
use Rattle.vortex_base.specs.declared.dtype.DType.{DType}
use Rattle.vortex_base.specs.declared.dtype.DType.TheVariants as dtype
use Rattle.vortex_base.specs.declared.pvalue.PValue.{PValue}
use Rattle.vortex_base.specs.declared.scalar_value.ScalarValue.{ScalarValue}
use Rattle.vortex_base.specs.declared.scalar_value.ScalarValue.TheVariants as value
use Rattle.vortex_base.specs.declared.value_ref.ValueRef.{ValueRef}
use Rattle.vortex_base.specs.Data.ArrayData.{value_of}
use Rattle.vortex_base.specs.Data.Columns.{ColumnData, all_fit}
use Rattle.vortex_base.specs.Data.Values.{value_cmp}
use Rattle.vortex_stats.specs.declared.stat.Stat.{Stat}
use Rattle.vortex_stats.specs.declared.stat.Stat.TheVariants.{Max, Min, NullCount, UncompressedSizeInBytes}
use Rattle.vortex_stats.specs.Measuring.Measured.{max_value, min_value}
use Rattle.vortex_stats.specs.Sets.Claims.{NoneAbove, NoneBelow, null_count, present}
use Rattle.vortex_capi.specs.declared.extent.Extent.{Extent}
use Rattle.vortex_capi.specs.declared.extent.Range.{Range}
use Rattle.vortex_capi.specs.declared.status.Status.{Status}
use Rattle.vortex_capi.specs.Refusals.{all_read}
use Rattle.vortex_capi.specs.Statuses.{at_row}

-- these are the least and the greatest value of the column, where it has one, and its number of nulls
pub record IsExtentOf (e : Extent) (c : ColumnData) : Type 0 where
  pub nulls : e.nulls ≡ null_count c.values
  pub least : option_map value_of e.least ≡ min_value (present c.values)
  pub greatest : option_map value_of e.greatest ≡ max_value (present c.values)

-- the statistic of a column follows of the extent and the size
abbrev pub follows : Stat → Bool
follows Max = true
follows Min = true
follows NullCount = true
follows UncompressedSizeInBytes = true
follows s = false

-- a type of texts or byte strings
abbrev pub is_lent : DType → Bool
is_lent (dtype.Utf8 n) = true
is_lent (dtype.Binary n) = true
is_lent t = false

-- how values compare that are lent
abbrev pub lent_cmp : ValueRef → ValueRef → Ordering
lent_cmp a b = value_cmp (value_of a) (value_of b)

-- a number as a value
abbrev pub scalar_of : {N : Type 0} → (N → PValue) → N → ScalarValue
scalar_of number n = value.Primitive (number n)

module _ {N : Type 0} (scalar : N → ScalarValue) where
  -- both stand among the optional values, and no value lies outside of them
  pub record IsRangeOf (range : Range N) (xs : List (Option ScalarValue)) : Type 0 where
    pub least_within : Contains xs (Some (scalar range.least))
    pub none_below : NoneBelow (scalar range.least) xs
    pub greatest_within : Contains xs (Some (scalar range.greatest))
    pub none_above : NoneAbove (scalar range.greatest) xs

  -- no range where there are no values
  abbrev pub IsOptionalRangeOf : Option (Range N) → List (Option ScalarValue) → Type 0
  IsOptionalRangeOf range xs = MatchOption range (present xs ≡ []) (λ r. IsRangeOf r xs)

  -- what the first rows hold, how many of them are null, and the range of the others
  pub record HasRead (t : DType) (read : ℕ → Result (Option ScalarValue) Status) (row nulls : ℕ) (range : Option (Range N)) : Type 0 where
    pub values : List (Option ScalarValue)
    pub all : all_read at_row read row ≡ Ok values
    pub fits : all_fit t values ≡ true
    pub counted : nulls ≡ null_count values
    pub within : nulls ≤ row
    pub ranged : IsOptionalRangeOf range values
