-- Whether what a statistic claims holds of a column, as a test.
use Rattle.std.specs.Prelude.{◌==◌, ℕ, Bool, true, false, not, ◌||◌, Option, Some, None, nat_le}
use Rattle.std.specs.Ordering.{is_eq}
use Rattle.vortex_base.specs.declared.pvalue.PValue.TheVariants as number
use Rattle.vortex_base.specs.declared.scalar_value.ScalarValue.{ScalarValue}
use Rattle.vortex_base.specs.declared.scalar_value.ScalarValue.TheVariants as value
use Rattle.vortex_base.specs.Data.Columns.{ColumnData}
use Rattle.vortex_base.specs.Data.Values.{value_cmp}
use Rattle.vortex_stats.specs.declared.stat.Stat.{Stat}
use Rattle.vortex_stats.specs.declared.stat.Stat.TheVariants.{IsConstant, IsSorted, IsStrictSorted, Max, Min, Sum, NullCount, UncompressedSizeInBytes, NaNCount}
use Rattle.vortex_stats.specs.declared.precision.Precision.{Precision}
use Rattle.vortex_stats.specs.declared.precision.Precision.TheVariants.{Exact, Inexact, Absent}
use Rattle.vortex_stats.specs.Measuring.Measured.{max_value, measured_value, min_value}
use Rattle.vortex_stats.specs.Merging.Merges.{is_at_most, is_exact_truth}
use Rattle.vortex_stats.specs.Precision.{is_exact}
use Rattle.vortex_stats.specs.Sets.Claims.{is_constant, is_sorted, is_strict_sorted, null_count, present}

abbrev pub allows_truth : Precision ScalarValue → Bool → Bool
allows_truth p b = not (is_exact p) || is_exact_truth b p

abbrev pub allows_count : Precision ScalarValue → ℕ → Bool
allows_count (Exact (value.Primitive (number.U64 m))) n = m == n
allows_count (Inexact (value.Primitive (number.U64 m))) n = nat_le n m
allows_count Absent n = true
allows_count p n = false

-- the greatest value, and the least, is this one
abbrev pub allows_max : Precision ScalarValue → Option ScalarValue → Bool
allows_max (Exact v) (Some w) = is_eq (value_cmp v w)
allows_max (Exact v) None = false
allows_max (Inexact v) (Some w) = is_at_most w v
allows_max (Inexact v) None = true
allows_max Absent o = true

abbrev pub allows_min : Precision ScalarValue → Option ScalarValue → Bool
allows_min (Exact v) (Some w) = is_eq (value_cmp v w)
allows_min (Exact v) None = false
allows_min (Inexact v) (Some w) = is_at_most v w
allows_min (Inexact v) None = true
allows_min Absent o = true

-- the sum, where it stays in its type, is this one
abbrev pub allows_sum : Precision ScalarValue → Option ScalarValue → Bool
allows_sum (Exact v) (Some w) = is_eq (value_cmp v w)
allows_sum (Exact v) None = false
allows_sum (Inexact v) o = true
allows_sum Absent o = true

-- a statistic's value, which is of its type, claims what holds of the column
abbrev pub allows : Stat → Precision ScalarValue → ColumnData → Bool
allows IsConstant p c = allows_truth p (is_constant c.values)
allows IsSorted p c = allows_truth p (is_sorted (present c.values))
allows IsStrictSorted p c = allows_truth p (is_strict_sorted (present c.values))
allows Max p c = allows_max p (max_value (present c.values))
allows Min p c = allows_min p (min_value (present c.values))
allows Sum p c = allows_sum p (measured_value Sum c)
allows NullCount p c = allows_count p (null_count c.values)
allows UncompressedSizeInBytes p c = allows_count p c.size
allows NaNCount p c = true
