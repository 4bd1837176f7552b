-- A map of zones: how many rows each has, and a table of their statistics with one row a zone.
use Rattle.std.specs.Prelude.{◌≡◌, ◌==◌, ℕ, zero, suc, ◌+◌, Bool, true, false, List, [], ◌∷◌, ◌++◌, Option, Some, None, Result, Ok, Err, length, map, codes, position, option_map, IsTrue, slice_get, if◌then◌else◌}
use Rattle.std.specs.List.{filter, list_all}
use Rattle.vortex_base.specs.declared.aggregate.AggregateFnRef.{AggregateFnRef}
use Rattle.vortex_base.specs.declared.aggregate.AggregateFnRef.TheVariants.{Max, Min, Sum, NullCount, NanCount, UncompressedSizeInBytes, AllNull, AllNonNull, MinMax}
use Rattle.vortex_base.specs.declared.dtype.DType.{DType}
use Rattle.vortex_base.specs.declared.dtype.DType.TheVariants as dtype
use Rattle.vortex_base.specs.declared.error.BaseError.{BaseError}
use Rattle.vortex_base.specs.declared.scalar_value.ScalarValue.{ScalarValue}
use Rattle.vortex_base.specs.Data.Columns.{ChunkData, ColumnData, IsChunk, appended_chunk, emptied_chunk, row_count as rows_of}
use Rattle.vortex_base.specs.Data.Scopes.{Named}
use Rattle.vortex_expr.specs.Trees.TreeEq.{aggregate_eq}
use Rattle.vortex_base.specs.Data.Types.{eq_ignore_nullability}
use Rattle.vortex_expr.specs.Meanings.Typing.{stat_type}
use Rattle.vortex_stats.specs.Sets.Entries.{entries_fit}
use Rattle.vortex_zone_map.specs.Zone.{AreZonesOf, Entries, ZoneData}
use Rattle.vortex_zone_map.specs.StatValues.{stat_value}

-- what is kept of zones of one scope: how many rows each has, and the table of their statistics
pub record MapData : Type 0 where
  pub scope : List Named
  pub rows : List ℕ
  pub table : ChunkData

-- the aggregates of a table, in its order
abbrev pub aggregates : List AggregateFnRef
aggregates = Max ∷ Min ∷ Sum ∷ NullCount ∷ UncompressedSizeInBytes ∷ AllNull ∷ AllNonNull ∷ []

-- what follows a column's name in that of its column of the table for an aggregate
abbrev pub suffix : AggregateFnRef → List ℕ
suffix Max = codes "#0"
suffix Min = codes "#1"
suffix Sum = codes "#2"
suffix NullCount = codes "#3"
suffix UncompressedSizeInBytes = codes "#4"
suffix AllNull = codes "#5"
suffix AllNonNull = codes "#6"
suffix MinMax = []
suffix NanCount = []

abbrev pub is_typed : Result DType BaseError → Bool
is_typed (Ok t) = true
is_typed (Err f) = false

-- those that support a type
abbrev pub supporting : DType → List AggregateFnRef
supporting t = filter (λ f. is_typed (stat_type f t)) aggregates

abbrev pub type_or_null : Result DType BaseError → DType
type_or_null (Ok t) = t
type_or_null (Err f) = dtype.Null

-- the type of the column for an aggregate that supports the type: its state's, made nullable
abbrev pub zone_type : AggregateFnRef → DType → DType
zone_type f t = type_or_null (stat_type f t)

-- a column of the table without its values: the place of the column that it tells of, and the aggregate
pub record StatColumn : Type 0 where
  pub source : ℕ
  pub aggregate : AggregateFnRef
  pub name : List ℕ
  pub dtype : DType

abbrev pub head : ℕ → Named → AggregateFnRef → StatColumn
head i c f = record { source = i; aggregate = f; name = c.0 ++ suffix f; dtype = zone_type f c.1 }

abbrev pub heads_from : ℕ → List Named → List StatColumn
heads_from i [] = []
heads_from i (c ∷ cs) = map (head i c) (supporting c.1) ++ heads_from (i + 1) cs

-- for each column of the scope in order, those for the aggregates that support it
abbrev pub heads : List Named → List StatColumn
heads cs = heads_from 0 cs

abbrev pub named_head : StatColumn → Named
named_head h = (h.name, h.dtype)

-- the head, if the aggregate supports the type
abbrev pub head_if : Bool → StatColumn → List StatColumn
head_if b h = if b then h ∷ [] else []

-- where the columns of the table that tell of each column of the scope start
abbrev pub starts_from : ℕ → List Named → List ℕ
starts_from n [] = []
starts_from n (c ∷ cs) = n ∷ starts_from (n + length (supporting c.1)) cs

-- the head tells of a column of the scope that its aggregate supports
abbrev pub TellsOf : List Named → StatColumn → Type 0
TellsOf scope h = (c : Named) × (slice_get scope h.source ≡ Some c) × (stat_type h.aggregate c.1 ≡ Ok h.dtype)

-- each zone has a set where the head tells of, and that fits a type that its aggregate supports
abbrev pub EachTells : List ZoneData → StatColumn → Type 0
EachTells zones h =
    (i : ℕ) (zone : ZoneData) → slice_get zones i ≡ Some zone →
    (t : DType) × (es : Entries) × (slice_get zone.stats h.source ≡ Some es) × IsTrue (entries_fit es t) × (stat_type h.aggregate t ≡ Ok h.dtype)

abbrev pub set_value : AggregateFnRef → Option Entries → (n : ℕ) → Option ScalarValue
set_value f None n = None
set_value f (Some es) n = stat_value f es n

-- what a zone's set of a column tells, by the zone's row count
abbrev pub zone_value : AggregateFnRef → ℕ → ZoneData → Option ScalarValue
zone_value f i zone = set_value f (slice_get zone.stats i) zone.rows

-- the value, if the aggregate supports the type
abbrev pub value_if : Bool → Option ScalarValue → List (Option ScalarValue)
value_if b v = if b then v ∷ [] else []

-- what a zone tells in a column of the table
abbrev pub told_of : ZoneData → StatColumn → Option ScalarValue
told_of zone h = zone_value h.aggregate h.source zone

abbrev pub zone_column : List ZoneData → StatColumn → ColumnData
zone_column zones h = record { dtype = h.dtype; values = map (zone_value h.aggregate h.source) zones; size = 0 }

abbrev pub zone_columns : List Named → List ZoneData → List ColumnData
zone_columns scope zones = map (zone_column zones) (heads scope)

-- the table: one row a zone, in order
abbrev pub zone_table : List Named → List ZoneData → ChunkData
zone_table scope zones = record { scope = map named_head (heads scope); columns = zone_columns scope zones }

-- the map
abbrev pub zone_map : List Named → List ZoneData → MapData
zone_map scope zones = record { scope = scope; rows = map (λ zone. zone.rows) zones; table = zone_table scope zones }

-- the zones of one map after those of another of its scope
abbrev pub appended_map : MapData → MapData → MapData
appended_map m k = record { scope = m.scope; rows = m.rows ++ k.rows; table = appended_chunk m.table k.table }

-- a map that has lost its zones
abbrev pub emptied_map : MapData → MapData
emptied_map m = record { scope = m.scope; rows = []; table = emptied_chunk m.table }

-- it is the map of these zones
pub record IsMapOf (zones : List ZoneData) (m : MapData) : Type 0 where
  pub are_zones : AreZonesOf m.scope zones
  pub same : m ≡ zone_map m.scope zones

-- the place of an aggregate among those that support the type
abbrev pub offset : AggregateFnRef → DType → Option ℕ
offset f t = position (aggregate_eq f) (supporting t)

-- the place in the table of the column for an aggregate of the column at a place of the scope, if that has this type, nullability aside
abbrev pub zone_place : List Named → ℕ → AggregateFnRef → DType → Option ℕ
zone_place [] i f t = None
zone_place (c ∷ cs) zero f t = if eq_ignore_nullability c.1 t then offset f c.1 else None
zone_place (c ∷ cs) (suc i) f t = option_map (λ k. length (supporting c.1) + k) (zone_place cs i f t)

-- what every map keeps: its table is of the scope, has as many rows as there are zones and declares no sizes, and where the columns start is known that tell of each column of the scope
pub record IsMap (m : MapData) (starts : List ℕ) : Type 0 where
  pub named : m.table.scope ≡ map named_head (heads m.scope)
  pub counted : length m.rows ≡ rows_of m.table.columns
  pub sizeless : IsTrue (list_all (λ c. c.size == 0) m.table.columns)
  pub started : starts ≡ starts_from 0 m.scope

-- so its table is a chunk below the heads of the scope, with a row for each zone
pub record HasTable (m : MapData) : Type 0 where
  pub is_chunk : IsChunk m.table
  pub named : m.table.scope ≡ map named_head (heads m.scope)
  pub counted : length m.rows ≡ rows_of m.table.columns
