-- What a pass over all values of a column has found.
use Rattle.std.specs.Prelude.{◌≡◌, ℕ, ◌<◌, List, Option, Some, None, length, slice_get}
use Rattle.std.specs.Option.{IfSome, option_map}
use Rattle.vortex_base.specs.declared.dtype.DType.{DType}
use Rattle.vortex_base.specs.declared.scalar_value.ScalarValue.{ScalarValue}
use Rattle.vortex_base.specs.declared.scalar_value.ScalarValue.TheVariants as value
use Rattle.vortex_base.specs.Data.Columns.{value_at}
use Rattle.vortex_stats.specs.declared.measure.measures.Measures.{Measures}
use Rattle.vortex_stats.specs.declared.stat.Stat.TheVariants.{Sum}
use Rattle.vortex_stats.specs.Measuring.Measured.{max_value, min_value, number_in}
use Rattle.vortex_stats.specs.Sets.Claims.{is_constant, is_sorted, is_strict_sorted, null_count, present, sum_of}
use Rattle.vortex_stats.specs.Stat.{stat_dtype}

-- the value at a place, if there is a place
abbrev pub found : List (Option ScalarValue) → Option ℕ → Option ScalarValue
found xs None = None
found xs (Some i) = value_at (slice_get xs i)

-- the place, if there is one, is one of the list
abbrev pub IsWithin : List (Option ScalarValue) → Option ℕ → Type 0
IsWithin xs i = IfSome i (λ n. n < length xs)

-- these are the measures of optional values of the type
pub record AreMeasuresOf (m : Measures) (t : DType) (xs : List (Option ScalarValue)) : Type 0 where
  pub nulls : m.nulls ≡ null_count xs
  pub constant : m.is_constant ≡ is_constant xs
  pub sorted : m.is_sorted ≡ is_sorted (present xs)
  pub strict_sorted : m.is_strict_sorted ≡ is_strict_sorted (present xs)
  pub greatest : found xs m.greatest ≡ max_value (present xs)
  pub greatest_within : IsWithin xs m.greatest
  pub least : found xs m.least ≡ min_value (present xs)
  pub least_within : IsWithin xs m.least
  pub sum : option_map value.Primitive m.sum ≡ number_in (stat_dtype Sum t) (sum_of (present xs))
