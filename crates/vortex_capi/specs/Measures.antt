-- The statistics of the values that a caller hands in.
use Rattle.std.specs.Prelude.{ℕ, List, Option, None, Some, Result, Ok, Err, length, map, slice_index}
use Rattle.vortex_base.specs.declared.dtype.DType.{DType}
use Rattle.vortex_base.specs.Data.Columns.{ColumnData}
use Rattle.vortex_base.specs.declared.scalar_value.ScalarValue.{ScalarValue}
use Rattle.vortex_stats.specs.declared.precision.Precision.{Precision}
use Rattle.vortex_stats.specs.declared.stat.Stat.{Stat}
use Rattle.vortex_stats.specs.Measuring.Measured.{measured as measured_entries}
use Rattle.vortex_stats.specs.Sets.Entries.{entry_value}
use Rattle.vortex_stats.specs.Stat.{stat_at, stat_dtype}
use Rattle.vortex_capi.specs.declared.fault.Refusal.{Refusal}
use Rattle.vortex_capi.specs.declared.status.Status.{Status}
use Rattle.vortex_capi.specs.declared.status.Status.TheVariants.{BadStat}
use Rattle.vortex_capi.specs.declared.values.Values.{Values}
use Rattle.vortex_capi.specs.Refusals.{all_read, followed}
use Rattle.vortex_capi.specs.Slots.{Slot, slot_of}
use Rattle.vortex_capi.specs.Statuses.{at_entry}
use Rattle.vortex_capi.specs.Values.{column, type_given}

abbrev pub with_dtype : Stat → Option DType → Result Stat Status
with_dtype s None = Err BadStat
with_dtype s (Some t) = Ok s

abbrev pub supported : DType → Option Stat → Result Stat Status
supported t None = Err BadStat
supported t (Some s) = with_dtype s (stat_dtype s t)

-- the statistic of a number, if a column of the type has it
abbrev pub stat_of : DType → ℕ → Result Stat Status
stat_of t n = supported t (stat_at n)

-- the statistics of the numbers, or the first number of none
abbrev pub wanted_of : DType → List ℕ → Result (List Stat) Refusal
wanted_of t numbers = all_read at_entry (λ i. stat_of t (slice_index numbers i)) (length numbers)

-- the wanted statistics of a set of a column of a type in order
abbrev pub slots_in : DType → List (Stat × Precision ScalarValue) → List Stat → List Slot
slots_in t set wanted = map (λ s. slot_of t s (entry_value s set)) wanted

-- the wanted statistics of a column
abbrev pub slots_of : ColumnData → List Stat → List Slot
slots_of c wanted = slots_in c.dtype (measured_entries wanted c) wanted

-- the statistics of the column of a type that is read so, where its numbers and the values are in order
abbrev pub measured_as : (DType → Result ColumnData Refusal) → List ℕ → DType → Result (List Slot) Refusal
measured_as read numbers t = followed (wanted_of t numbers) (λ wanted. followed (read t) (λ c. Ok (slots_of c wanted)))

abbrev pub measured : Values → List ℕ → Result (List Slot) Refusal
measured v numbers = followed (type_given v) (measured_as (λ t. column t v) numbers)
