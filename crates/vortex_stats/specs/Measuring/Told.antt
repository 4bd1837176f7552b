-- One statistic of a column after another, as they are added to a set.
use Rattle.std.specs.Prelude.{List, Option, Some, None, if◌then◌else◌}
use Rattle.vortex_base.specs.declared.scalar_value.ScalarValue.{ScalarValue}
use Rattle.vortex_base.specs.Data.Columns.{ColumnData}
use Rattle.vortex_stats.specs.declared.stat.Stat.{Stat}
use Rattle.vortex_stats.specs.declared.precision.Precision.{Precision}
use Rattle.vortex_stats.specs.declared.precision.Precision.TheVariants.{Exact, Absent}
use Rattle.vortex_stats.specs.Measuring.Measured.{measured_value}
use Rattle.vortex_stats.specs.Precision.{is_absent}
use Rattle.vortex_stats.specs.Sets.Entries.{entry_value, with_entry}

-- exactly the value, and nothing where there is none
abbrev pub exactly : Option ScalarValue → Precision ScalarValue
exactly None = Absent
exactly (Some v) = Exact v

-- what is told of a statistic of the column
abbrev pub told : ColumnData → Stat → Precision ScalarValue
told c s = exactly (measured_value s c)

-- the statistic's value, if there is one, is written
abbrev pub with_optional : Stat → Option ScalarValue → List (Stat × Precision ScalarValue) → List (Stat × Precision ScalarValue)
with_optional s None es = es
with_optional s (Some v) es = with_entry s (Exact v) es

-- the statistic is told of, unless it is already
abbrev pub with_told : ColumnData → Stat → List (Stat × Precision ScalarValue) → List (Stat × Precision ScalarValue)
with_told c s es = if is_absent (entry_value s es) then with_optional s (measured_value s c) es else es
