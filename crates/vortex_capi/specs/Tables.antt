-- Zones as a table of columns.
use Rattle.std.specs.Prelude.{◌≡◌, ℕ, List, [], Option, None, Some, Result, Ok, Err, if◌then◌else◌, length, map, slice_get, slice_index, slice_set}
use Rattle.vortex_base.specs.declared.dtype.DType.{DType}
use Rattle.vortex_base.specs.declared.scalar_value.ScalarValue.{ScalarValue}
use Rattle.vortex_base.specs.Data.Scopes.{Named}
use Rattle.vortex_zone_map.specs.Zone.{Entries, ZoneData}
use Rattle.vortex_stats.specs.declared.precision.Precision.{Precision}
use Rattle.vortex_stats.specs.declared.stat.Stat.{Stat}
use Rattle.vortex_stats.specs.Sets.Entries.{with_entry}
use Rattle.vortex_capi.specs.declared.fault.Refusal.{Refusal}
use Rattle.vortex_capi.specs.declared.statistic.Statistic.{Statistic}
use Rattle.vortex_capi.specs.declared.status.Status.{Status}
use Rattle.vortex_capi.specs.declared.status.Status.TheVariants.{BadColumn, BadLength}
use Rattle.vortex_capi.specs.declared.table.Source.{Source}
use Rattle.vortex_capi.specs.Measures.{stat_of}
use Rattle.vortex_capi.specs.Refusals.{all_found, all_read, followed, placed, stepped}
use Rattle.vortex_capi.specs.Statistics.{fills_zones, value_in}
use Rattle.vortex_capi.specs.Statuses.{at_entry, in_column}

-- ---- the statistics of a table

abbrev pub source_with : Statistic → DType → Result Stat Status → Result Source Status
source_with x t (Err e) = Err e
source_with x t (Ok s) = Ok (record { statistic = x; dtype = t; stat = s })

abbrev pub source_of : Statistic → Option Named → Result Source Status
source_of x None = Err BadColumn
source_of x (Some c) = source_with x c.1 (stat_of c.1 x.stat)

-- a statistic whose arrays aren't of so many zones is refused
abbrev pub source_filled : (zones : ℕ) → Result Source Status → Result Source Status
source_filled zones (Err e) = Err e
source_filled zones (Ok x) = if fills_zones x.dtype x.stat zones x.statistic then Ok x else Err BadLength

abbrev pub source_or : List Named → (zones : ℕ) → Option Statistic → Result Source Status
source_or scope zones None = Err BadLength
source_or scope zones (Some x) = source_filled zones (source_of x (slice_get scope x.column))

-- each statistic of so many zones beside its column's type, or the first of no column, or that its column hasn't, or whose arrays are of more zones or fewer
abbrev pub sources_given : List Named → (zones : ℕ) → List Statistic → Result (List Source) Refusal
sources_given scope zones xs = all_read at_entry (λ i. source_or scope zones (slice_get xs i)) (length xs)

-- the type beside a statistic is that of its column
pub record IsTypedBy (scope : List Named) (x : Source) : Type 0 where
  pub column : Named
  pub there : slice_get scope x.statistic.column ≡ Some column
  pub typed : column.1 ≡ x.dtype

-- ---- a zone

-- nothing is known of a column
abbrev pub no_entries : Named → Entries
no_entries c = []

-- the sets with this value of a statistic in the one at a place, if there is one
abbrev pub set_at : ℕ → Stat → Precision ScalarValue → List Entries → Option Entries → List Entries
set_at i s p sets None = sets
set_at i s p sets (Some set) = slice_set sets i (with_entry s p set)

-- what a statistic's array says of a zone
abbrev pub value_of_source : Source → ℕ → Result (Precision ScalarValue) Status
value_of_source x zone = value_in x.dtype x.stat x.statistic.known.now x.statistic.values.now x.statistic.start x.statistic.ends.now zone

abbrev pub with_source : ℕ → ℕ → Option Source → List Entries → Result (List Entries) Refusal
with_source zone i None sets = Ok sets
with_source zone i (Some x) sets =
    followed (placed (λ s. in_column zone x.statistic.column s i) (value_of_source x zone)) (λ p. Ok (set_at x.statistic.column x.stat p sets (slice_get sets x.statistic.column)))

-- the columns' sets with the next statistic; of two of the same number of a column the later counts
abbrev pub next_source : ℕ → List Source → ℕ → List Entries → Result (List Entries) Refusal
next_source zone sources i sets = with_source zone i (slice_get sources i) sets

-- the set of each column in a zone
abbrev pub zone_sets : List Named → List Source → ℕ → Result (List Entries) Refusal
zone_sets scope sources zone = stepped (next_source zone sources) (map no_entries scope) (length sources)

abbrev pub zone_at : List Named → List Source → List ℕ → ℕ → Result ZoneData Refusal
zone_at scope sources rows zone = followed (zone_sets scope sources zone) (λ sets. Ok (record { rows = slice_index rows zone; stats = sets }))

-- the zones in order, or the first value that is refused
abbrev pub zones_given : List Named → List Source → List ℕ → Result (List ZoneData) Refusal
zones_given scope sources rows = all_found (zone_at scope sources rows) (length rows)
