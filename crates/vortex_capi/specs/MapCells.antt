-- The cells of a map's table, as the arrays of a caller tell them.
use Rattle.std.specs.Prelude.{◌≡◌, ◌<◌, ◌≤◌, ℕ, zero, suc, ◌+◌, ◌*◌, ◌==◌, ◌&&◌, Bool, true, false, List, Option, None, Some, Result, Ok, Err, IsTrue, if◌then◌else◌, length, nat_le, replicate, slice_get, slice_index}
use Rattle.vortex_base.specs.declared.aggregate.AggregateFnRef.{AggregateFnRef}
use Rattle.vortex_base.specs.declared.aggregate.AggregateFnRef.TheVariants as aggregate
use Rattle.vortex_base.specs.declared.dtype.DType.TheVariants as dtype
use Rattle.vortex_base.specs.declared.pvalue.PValue.{PValue}
use Rattle.vortex_base.specs.declared.scalar_value.ScalarValue.{ScalarValue}
use Rattle.vortex_base.specs.declared.scalar_value.ScalarValue.TheVariants as value
use Rattle.vortex_base.specs.declared.types.Nullability.{Nullability}
use Rattle.vortex_base.specs.declared.types.PType.{PType}
use Rattle.vortex_base.specs.Data.Columns.{ColumnData}
use Rattle.vortex_base.specs.Data.Scopes.{Named}
use Rattle.vortex_zone_map.specs.StatValues.{read_stat, told_value}
use Rattle.vortex_zone_map.specs.Zone.{ZoneData, zones_fit}
use Rattle.vortex_zone_map.specs.Tables.{slot}
use Rattle.vortex_zone_map.specs.ZoneMaps.{StatColumn, heads as all_heads}
use Rattle.vortex_stats.specs.Sets.Entries.{value_fits}
use Rattle.vortex_stats.specs.Stat.{stat_dtype, stat_eq}
use Rattle.vortex_stats.specs.declared.precision.Precision.{Precision}
use Rattle.vortex_stats.specs.declared.precision.Precision.TheVariants.{Absent, Exact, Inexact}
use Rattle.vortex_stats.specs.declared.stat.Stat.{Stat}
use Rattle.vortex_capi.specs.declared.fault.Refusal.{Refusal}
use Rattle.vortex_capi.specs.declared.batches.Batch.{Batch}
use Rattle.vortex_capi.specs.declared.batches.Lookups.{Lookups}
use Rattle.vortex_capi.specs.declared.status.Status.{Status}
use Rattle.vortex_capi.specs.declared.table.Source.{Source}
use Rattle.vortex_capi.specs.Refusals.{all_found, all_read}
use Rattle.vortex_capi.specs.Statistics.{present_value}
use Rattle.vortex_capi.specs.Statuses.{at_entry}
use Rattle.vortex_capi.specs.Tables.{value_of_source, zone_at}
use Rattle.vortex_capi.specs.Types.{number_width}

-- ---- the statistic that counts

-- it is this statistic of the column at a place
abbrev pub is_of : ℕ → Stat → Source → Bool
is_of i s x = (x.statistic.column == i) && stat_eq x.stat s

abbrev pub next_last : ℕ → Stat → Option Source → Option Source → Option Source
next_last i s None o = o
next_last i s (Some x) o = if is_of i s x then Some x else o

-- the last of the first n that is, if one is
abbrev pub last_of : ℕ → Stat → List Source → ℕ → Option Source
last_of i s xs zero = None
last_of i s xs (suc n) = next_last i s (slice_get xs n) (last_of i s xs n)

-- what it says of a zone; where there is none nothing is known
abbrev pub value_by : Option Source → ℕ → Result (Precision ScalarValue) Status
value_by None zone = Ok Absent
value_by (Some x) zone = value_of_source x zone

-- ---- cells

abbrev pub told_of : AggregateFnRef → (n : ℕ) → Result (Precision ScalarValue) Status → Result (Option ScalarValue) Status
told_of f n (Err s) = Err s
told_of f n (Ok p) = Ok (told_value f p n)

-- what it tells for an aggregate of a zone
abbrev pub told_cell : AggregateFnRef → Option Source → List ℕ → ℕ → Result (Option ScalarValue) Status
told_cell f o rows zone = told_of f (slice_index rows zone) (value_by o zone)

-- the same of the zones from a place on
abbrev pub told_cells : AggregateFnRef → Option Source → List ℕ → (from n : ℕ) → Result (List (Option ScalarValue)) Refusal
told_cells f o rows from n = all_read at_entry (λ k. told_cell f o rows (from + k)) n

-- ---- zones

-- the zones from a place on
abbrev pub zones_from : List Named → List Source → List ℕ → (from n : ℕ) → Result (List ZoneData) Refusal
zones_from scope sources rows from n = all_found (λ k. zone_at scope sources rows (from + k)) n

-- a statistic has a value for a zone, of its own type
pub record IsRead (x : Source) (zone : ℕ) : Type 0 where
  pub value : Precision ScalarValue
  pub read : value_of_source x zone ≡ Ok value
  pub fits : IsTrue (value_fits x.stat x.dtype value)

-- for each of the first n
abbrev pub AreRead : Source → ℕ → Type 0
AreRead x n = (zone : ℕ) → zone < n → IsRead x zone

-- each statistic has
abbrev pub AllRead : List Source → ℕ → Type 0
AllRead xs n = (i : ℕ) (x : Source) → slice_get xs i ≡ Some x → AreRead x n

-- the zones from a place on are read, and fit the scope
pub record AreZonesFrom (scope : List Named) (sources : List Source) (rows : List ℕ) (from n : ℕ) : Type 0 where
  pub zones : List ZoneData
  pub found : zones_from scope sources rows from n ≡ Ok zones
  pub fit : IsTrue (zones_fit scope zones)

-- ---- a batch

-- the zones of a batch
abbrev pub batch_zones : Batch → Result (List ZoneData) Refusal
batch_zones b = zones_from b.scope.now b.sources.now b.rows.now b.from b.count

-- its zones are there, are read and fit the scope
pub record IsBatch (b : Batch) : Type 0 where
  pub within : b.from + b.count ≤ length b.rows.now
  pub there : AreZonesFrom b.scope.now b.sources.now b.rows.now b.from b.count

-- nulls below a head, in a table of n zones
abbrev pub null_column : StatColumn → ℕ → ColumnData
null_column h n = record { dtype = h.dtype; values = replicate n None; size = 0 }

-- these are what the statistics that count tell below a head of its zones
pub record AreCells (b : Batch) (h : StatColumn) (cells : List (Option ScalarValue)) : Type 0 where
  pub stat : Stat
  pub reads : read_stat h.aggregate ≡ Some stat
  pub told : told_cells h.aggregate (last_of h.source stat b.sources.now (length b.sources.now)) b.rows.now b.from b.count ≡ Ok cells

-- ---- where the statistics stand that count

-- for each statistic of each column that has a place, where the last of the first n that is this one stands, or past all
pub record AreLasts (xs : List Source) (n : ℕ) (lasts : List ℕ) : Type 0 where
  pub last : (i : ℕ) (s : Stat) (k : ℕ) → slice_get lasts (slot i s) ≡ Some k → slice_get xs k ≡ last_of i s xs n

-- there stands the statistic that counts for a head, or none does
pub record IsCounting (xs : List Source) (h : StatColumn) (k : ℕ) : Type 0 where
  pub stat : Stat
  pub reads : read_stat h.aggregate ≡ Some stat
  pub last : slice_get xs k ≡ last_of h.source stat xs (length xs)

-- for each of the heads
abbrev pub AreCounting : List Source → List StatColumn → List ℕ → Type 0
AreCounting xs hs entries = (j : ℕ) (h : StatColumn) (k : ℕ) → slice_get hs j ≡ Some h → slice_get entries j ≡ Some k → IsCounting xs h k

-- what is looked up for the heads of a scope
pub record AreLookups (scope : List Named) (xs : List Source) (l : Lookups) : Type 0 where
  pub heads : l.heads.items ≡ all_heads scope
  pub named : length l.named.items ≡ length l.heads.items
  pub long : length l.entries.items ≡ length l.heads.items
  pub counting : AreCounting xs l.heads.items l.entries.items

-- ---- statistics whose values are numbers

-- the value of a number
abbrev pub numbered : Precision PValue → Precision ScalarValue
numbered (Exact n) = Exact (value.Primitive n)
numbered (Inexact n) = Inexact (value.Primitive n)
numbered Absent = Absent

-- the values are numbers of this type
pub record HasNumbers (t : PType) (x : Source) : Type 0 where
  pub nullability : Nullability
  pub typed : stat_dtype x.stat x.dtype ≡ Some (dtype.Primitive t nullability)

-- the byte says how a value is known
abbrev pub is_code : ℕ → Bool
is_code k = nat_le k 2

-- a code and as many bytes as a number of the type takes are there for each of the first n zones
pub record Stand (t : PType) (x : Source) (n : ℕ) : Type 0 where
  pub known : n ≤ length x.statistic.known.now
  pub numbers : n * number_width t ≤ length x.statistic.values.now

-- the value that stands for a zone
abbrev pub present_in : Source → ℕ → Result ScalarValue Status
present_in x zone = present_value x.dtype x.stat x.statistic.values.now x.statistic.start x.statistic.ends.now zone

-- this is what the statistic says of a zone, of its own type
pub record IsNumberIn (x : Source) (zone : ℕ) (p : Precision PValue) : Type 0 where
  pub read : value_of_source x zone ≡ Ok (numbered p)
  pub fits : IsTrue (value_fits x.stat x.dtype (numbered p))

-- the same of numbers that are kept in another form
abbrev pub seen : {X : Type 0} → (X → PValue) → Precision X → Precision PValue
seen f (Exact n) = Exact (f n)
seen f (Inexact n) = Inexact (f n)
seen f Absent = Absent

-- ---- numbers that are told themselves

-- a number itself is told for the aggregate, and not whether it is all or none
abbrev pub tells_value : AggregateFnRef → Bool
tells_value aggregate.Max = true
tells_value aggregate.Min = true
tells_value aggregate.Sum = true
tells_value aggregate.NullCount = true
tells_value aggregate.UncompressedSizeInBytes = true
tells_value aggregate.AllNull = false
tells_value aggregate.AllNonNull = false
tells_value aggregate.MinMax = false
tells_value aggregate.NanCount = false

-- the byte says that a value is known exactly
abbrev pub is_exact : ℕ → Bool
is_exact k = k == 1

-- each value of n zones from a place on is
abbrev pub AreExact : Source → (from n : ℕ) → Type 0
AreExact x from n = (k : ℕ) → k < n → slice_get x.statistic.known.now (from + k) ≡ Some 1

-- these are told of n zones from a place on, for each aggregate for which a number itself is told
abbrev pub TellsValues : Source → (from n : ℕ) → List (Option ScalarValue) → Type 0
TellsValues x from n cells = (f : AggregateFnRef) (rows : List ℕ) → tells_value f ≡ true → told_cells f (Some x) rows from n ≡ Ok cells
