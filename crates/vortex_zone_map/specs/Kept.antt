-- A log as it is kept: what is told in order, and which stretch of it tells of each zone.
use Rattle.std.specs.Prelude.{◌≡◌, ◌<◌, ◌≤◌, ◌-◌, ◌++◌, ℕ, List, [], ◌∷◌, Option, None, Some, drop, length, map, slice_get, take, ⊤}
use Rattle.std.specs.List.{AllByRecursion}
use Rattle.vortex_base.specs.Data.ArrayData.{short_value}
use Rattle.vortex_base.specs.declared.array_data.PrimitiveScalar.{PrimitiveScalar}
use Rattle.vortex_base.specs.declared.array_data.PrimitiveScalar.TheVariants as cell
use Rattle.vortex_base.specs.declared.scalar_value.ScalarValue.{ScalarValue}
use Rattle.vortex_zone_map.specs.Zone.{Entries, ZoneData}
use Rattle.vortex_stats.specs.declared.precision.Precision.{Precision}
use Rattle.vortex_stats.specs.declared.precision.Precision.TheVariants as precise
use Rattle.vortex_stats.specs.declared.stat.Stat.{Stat}
use Rattle.vortex_zone_map.specs.Logs.{LogData, empty_sets, set_at}
use Rattle.vortex_zone_map.specs.declared.stored_value.ValueTag.{ValueTag}
use Rattle.vortex_zone_map.specs.declared.stored_value.ValueTag.TheVariants as form
use Rattle.vortex_zone_map.specs.declared.stored_value.StoredValue.{StoredValue}
use Rattle.vortex_zone_map.specs.declared.entry_range.EntryRange.{EntryRange}
use Rattle.vortex_zone_map.specs.declared.stat_entry.StatEntry.{StatEntry}

-- ---- what is said

-- a value of a statistic of the column at a place
pub record Saying : Type 0 where
  pub column : ℕ
  pub stat : Stat
  pub value : Precision ScalarValue

-- what a set says of the column at a place
abbrev pub said_in : ℕ → Entries → List Saying
said_in i es = map (λ e. record { column = i; stat = e.0; value = e.1 }) es

-- the sets with what is said
abbrev pub sets_with : List Entries → List Saying → List Entries
sets_with sets [] = sets
sets_with sets (t ∷ ts) = sets_with (set_at t.column t.stat t.value sets (slice_get sets t.column)) ts

-- the sets of so many columns that it makes
abbrev pub sets_of : ℕ → List Saying → List Entries
sets_of n ts = sets_with (empty_sets n) ts

-- a stretch of what is said
abbrev pub stretch_of : List Saying → EntryRange → List Saying
stretch_of ts s = take (s.to - s.from) (drop s.from ts)

-- the zone of which it is said
abbrev pub zone_of : ℕ → List Saying → EntryRange → ZoneData
zone_of n ts s = record { rows = s.rows; stats = sets_of n (stretch_of ts s) }

-- each zone
abbrev pub zones_of : ℕ → List Saying → List EntryRange → List ZoneData
zones_of n ts ss = map (zone_of n ts) ss

-- the stretch is one of so many that are said
pub record IsWithin (n : ℕ) (s : EntryRange) : Type 0 where
  pub ascends : s.from ≤ s.to
  pub within : s.to ≤ n

-- ---- how a value is kept

abbrev pub exact : Option ScalarValue → Precision ScalarValue
exact None = precise.Absent
exact (Some v) = precise.Exact v

abbrev pub inexact : Option ScalarValue → Precision ScalarValue
inexact None = precise.Absent
inexact (Some v) = precise.Inexact v

-- the text or bytes at the place that a cell tells
abbrev pub long_value : List ScalarValue → PrimitiveScalar → Option ScalarValue
long_value var_len_values (cell.U64 n) = slice_get var_len_values n
long_value var_len_values c = None

-- the value that is kept in a form
abbrev pub formed : List ScalarValue → ValueTag → PrimitiveScalar → Precision ScalarValue
formed var_len_values form.Absent c = precise.Absent
formed var_len_values form.Exact c = exact (short_value c)
formed var_len_values form.Inexact c = inexact (short_value c)
formed var_len_values form.LongExact c = exact (long_value var_len_values c)
formed var_len_values form.LongInexact c = inexact (long_value var_len_values c)

abbrev pub kept_value : List ScalarValue → StoredValue → Precision ScalarValue
kept_value var_len_values k = formed var_len_values k.form k.cell

-- the place that a cell tells is one of so many
abbrev pub IsPlace : ℕ → PrimitiveScalar → Type 0
IsPlace n (cell.U64 k) = k < n
IsPlace n c = ⊤

abbrev pub IsFormed : ℕ → ValueTag → PrimitiveScalar → Type 0
IsFormed n form.LongExact c = IsPlace n c
IsFormed n form.LongInexact c = IsPlace n c
IsFormed n f c = ⊤

-- where the value is a text or bytes, it is one of so many
abbrev pub IsKept : ℕ → StoredValue → Type 0
IsKept n k = IsFormed n k.form k.cell

-- there are these values, and maybe more behind them
pub record IsLonger (old new : List ScalarValue) : Type 0 where
  pub more : List ScalarValue
  pub same : new ≡ old ++ more

-- ---- what is told, and with the texts and bytes beside it what it says

abbrev pub saying : List ScalarValue → StatEntry → Saying
saying var_len_values t = record { column = t.column; stat = t.stat; value = formed var_len_values t.form t.cell }

abbrev pub said : List ScalarValue → List StatEntry → List Saying
said var_len_values ts = map (saying var_len_values) ts

abbrev pub AreKept : ℕ → List StatEntry → Type 0
AreKept n ts = AllByRecursion (λ t. IsFormed n t.form t.cell) ts

-- what every log keeps: each stretch is one of what is told, and each text is there
pub record IsLog (var_len_values : List ScalarValue) (told current : List StatEntry) (runs : List EntryRange) : Type 0 where
  pub stretches : AllByRecursion (IsWithin (length (said var_len_values told))) runs
  pub told_kept : AreKept (length var_len_values) told
  pub current_kept : AreKept (length var_len_values) current

-- the log that is kept so
abbrev pub log_of : ℕ → List ScalarValue → (told current : List StatEntry) → List EntryRange → LogData
log_of n var_len_values told current runs = record { zones = zones_of n (said var_len_values told) runs; current = sets_of n (said var_len_values current) }
