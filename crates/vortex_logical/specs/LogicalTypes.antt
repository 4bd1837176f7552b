-- What the cells of columns of numbers stand for.
use Rattle.std.specs.Prelude.{◌≡◌, ℕ, ℤ, pos, negsuc, nat_lt, if◌then◌else◌}
use Rattle.vortex_logical.specs.declared.comparison.Comparison.{Comparison}
use Rattle.vortex_logical.specs.declared.exact.Exact.{Exact}
use Rattle.vortex_logical.specs.declared.point.Point.{Point}
use Rattle.vortex_logical.specs.declared.lower.CellTest.{CellTest}
use Rattle.vortex_logical.specs.declared.exact.Step.{Step}
use Rattle.vortex_logical.specs.declared.cell_range.CellRange.{CellRange}
use Rattle.vortex_logical.specs.declared.time_unit.TimeUnit.{TimeUnit}
use Rattle.vortex_logical.specs.declared.time_unit.TimeUnit.TheVariants.{Seconds, Milliseconds, Microseconds, Nanoseconds}
use Rattle.vortex_logical.specs.declared.logical_type.LogicalType.{LogicalType}
use Rattle.vortex_logical.specs.declared.logical_type.LogicalType.TheVariants.{Date, Time, Timestamp, TimestampTz, Decimal}
use Rattle.vortex_logical.specs.declared.logical_type.ExactKind.{ExactKind}
use Rattle.vortex_logical.specs.declared.logical_type.ExactKind.TheVariants.{Number, Clock, Instant, TimeOfDay}
use Rattle.vortex_logical.specs.Meaning.{Fraction, steps, fraction_cmp, fraction_of, holds}
use Rattle.vortex_logical.specs.Points.{point_cmp}
use Rattle.vortex_logical.specs.Lowering.{IsIn, test_holds}

-- how many digits of a second a unit has
abbrev pub digits : TimeUnit → ℕ
digits Seconds = 0
digits Milliseconds = 3
digits Microseconds = 6
digits Nanoseconds = 9

abbrev pub step : LogicalType → Step
step Date = record { each = 86_400; scale = 0 }
step (Time u) = record { each = 1; scale = digits u }
step (Timestamp u) = record { each = 1; scale = digits u }
step (TimestampTz u) = record { each = 1; scale = digits u }
step (Decimal d) = record { each = 1; scale = d.scale }

-- what the values count
abbrev pub kind : LogicalType → ExactKind
kind Date = Clock
kind (Time u) = TimeOfDay
kind (Timestamp u) = Clock
kind (TimestampTz u) = Instant
kind (Decimal d) = Number

abbrev pub bits_64 : CellRange
bits_64 = record { least = negsuc 9_223_372_036_854_775_807; greatest = pos 9_223_372_036_854_775_807 }

abbrev pub digits_38 : CellRange
digits_38 = record { least = negsuc 99_999_999_999_999_999_999_999_999_999_999_999_998; greatest = pos 99_999_999_999_999_999_999_999_999_999_999_999_999 }

abbrev pub range : LogicalType → CellRange
range Date = record { least = negsuc 2_147_483_647; greatest = pos 2_147_483_647 }
range (Time u) = bits_64
range (Timestamp u) = bits_64
range (TimestampTz u) = bits_64
range (Decimal d) = if nat_lt 18 d.precision then digits_38 else bits_64

-- the number that a cell stands for
abbrev pub value : LogicalType → ℤ → Fraction
value t n = steps (step t) n

-- the number lies at that point among the cells of the column
abbrev pub IsAt : LogicalType → Exact → Point → Type 0
IsAt t x p = (n : ℤ) → IsIn (range t) n → fraction_cmp (value t n) (fraction_of x) ≡ point_cmp n p

-- the test says of each cell what the comparison says of its value
abbrev pub IsSame : LogicalType → Comparison → Exact → CellTest → Type 0
IsSame t c x r = (n : ℤ) → IsIn (range t) n → holds c (fraction_cmp (value t n) (fraction_of x)) ≡ test_holds n r
