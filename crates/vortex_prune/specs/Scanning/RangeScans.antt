-- Scans of one chunk by a map of zones, each of which is a range of its rows: the ranges stand one behind the other, each with as many rows as its zone's count says.
use Rattle.std.specs.Prelude.{◌≡◌, ◌==◌, ◌&&◌, ◌+◌, ◌<◌, ◌++◌, ℕ, Bool, List, [], ◌∷◌, Option, IsTrue, drop, filter, map, nat_le, sum, take, ⊤}
use Rattle.std.specs.List.{range_with_len}
use Rattle.vortex_base.specs.Data.Columns.{ChunkData, ColumnData, IsChunk, row_of, row_count as rows_of}
use Rattle.vortex_base.specs.Data.Scopes.{Named, scope_eq}
use Rattle.vortex_expr.specs.Meanings.Meaning.{satisfies}
use Rattle.vortex_expr.specs.Trees.Tree.{Tree, Place}
use Rattle.vortex_prune.specs.Part.{AreParts, PartData}
use Rattle.vortex_zone_map.specs.Zone.{ZoneData}
use Rattle.vortex_prune.specs.Scanning.ZoneScans.{zone_verdicts}
use Rattle.vortex_prune.specs.Zones.{HaveScope, zones_of}
use Rattle.vortex_zone_map.specs.ZoneMaps.{IsMapOf, MapData}
use Rattle.vortex_prune.specs.declared.scan.verdict.Verdict.{Verdict}
use Rattle.vortex_prune.specs.declared.scan.verdict.Verdict.TheVariants.{Skipped, Whole, Tested}

-- the zones of the map are ranges of the chunk: both have one scope, and the row counts add up to the chunk's
abbrev pub has_ranges : ChunkData → MapData → Bool
has_ranges k m = scope_eq k.scope m.scope && sum m.rows == rows_of k.columns

-- they are ranges of the rows from one on: the chunk has as many rows behind it, or more
abbrev pub has_ranges_from : ChunkData → (from : ℕ) → MapData → Bool
has_ranges_from k from m = scope_eq k.scope m.scope && nat_le (from + sum m.rows) (rows_of k.columns)

-- ---- the rows of one range

-- in a range of n rows that begins at a row, the predicate is true on the row at a place
abbrev pub is_true_in : Tree Place → List ColumnData → (from n : ℕ) → ℕ → Bool
is_true_in p cs from n i = satisfies p (row_of (from + i) cs) n

-- its rows as pairs for the zone at a place, by their places in the range, ascending
abbrev pub range_all : (place n : ℕ) → List (ℕ × ℕ)
range_all place n = map (λ i. (place, i)) (range_with_len 0 n)

-- those that satisfy the predicate
abbrev pub range_satisfying : Tree Place → (place : ℕ) → ChunkData → (from n : ℕ) → List (ℕ × ℕ)
range_satisfying p place k from n = map (λ i. (place, i)) (filter (is_true_in p k.columns from n) (range_with_len 0 n))

-- those that are selected: none of a skipped one, all of a whole one, else those that satisfy the predicate
abbrev pub range_rows : Verdict → Tree Place → (place : ℕ) → ChunkData → (from n : ℕ) → List (ℕ × ℕ)
range_rows Skipped p place k from n = []
range_rows Whole p place k from n = range_all place n
range_rows Tested p place k from n = range_satisfying p place k from n

-- how many of them are tested
abbrev pub range_tested : Verdict → (n : ℕ) → ℕ
range_tested Skipped n = 0
range_tested Whole n = 0
range_tested Tested n = n

-- ---- those of all ranges

-- by a verdict and a row count for each, from the zone at a place on, whose range begins at a row; the others begin where the one before ends
abbrev pub ranges_by : Tree Place → ChunkData → (place from : ℕ) → List Verdict → List ℕ → List (ℕ × ℕ)
ranges_by p k place from (v ∷ vs) (n ∷ ns) = range_rows v p place k from n ++ ranges_by p k (place + 1) (from + n) vs ns
ranges_by p k place from vs ns = []

-- the rows of all ranges that satisfy the predicate
abbrev pub satisfying_ranges : Tree Place → ChunkData → (place from : ℕ) → List ℕ → List (ℕ × ℕ)
satisfying_ranges p k place from [] = []
satisfying_ranges p k place from (n ∷ ns) = range_satisfying p place k from n ++ satisfying_ranges p k (place + 1) (from + n) ns

-- how many rows are tested
abbrev pub tested_by : List Verdict → List ℕ → ℕ
tested_by (v ∷ vs) (n ∷ ns) = range_tested v n + tested_by vs ns
tested_by vs ns = 0

-- how many rows each of some zones has
abbrev pub counts_of : List ZoneData → List ℕ
counts_of zones = map (λ zone. zone.rows) zones

module _ (falsifier satisfier : Option (Tree Place)) where
  -- the rows that are selected by zones whose ranges begin at a row, as zone and row in its range, whatever their statistics claim
  abbrev pub selected_from : Tree Place → ChunkData → (from : ℕ) → List Named → List ZoneData → List (ℕ × ℕ)
  selected_from p k from scope zones = ranges_by p k 0 from (zone_verdicts falsifier satisfier scope zones) (counts_of zones)

  -- how many rows are tested
  abbrev pub tested_ranges : List Named → List ZoneData → ℕ
  tested_ranges scope zones = tested_by (zone_verdicts falsifier satisfier scope zones) (counts_of zones)

-- the place in the chunk of a row that is told as zone and row in its range
abbrev pub row_in_chunk : (counts : List ℕ) → ℕ × ℕ → ℕ
row_in_chunk counts e = sum (take e.0 counts) + e.1

abbrev pub rows_in_chunk : (counts : List ℕ) → List (ℕ × ℕ) → List ℕ
rows_in_chunk counts es = map (row_in_chunk counts) es

-- ---- the ranges as parts

-- the rows of a chunk are those of another from a row on. What sizes its columns declare is left open
abbrev pub IsRange : ChunkData → (from : ℕ) → ChunkData → Type 0
IsRange k from range = (i : ℕ) → i < rows_of range.columns → row_of i range.columns ≡ row_of (from + i) k.columns

-- those of parts are, and each begins where the one before ends
abbrev pub AreRangesFrom : ChunkData → (from : ℕ) → List PartData → Type 0
AreRangesFrom k from [] = ⊤
AreRangesFrom k from (part ∷ parts) = IsRange k from part.chunk × AreRangesFrom k (from + rows_of part.chunk.columns) parts

-- the parts are what stands in the zones of a map, where these are ranges of the chunk one behind the other, from a row on
pub record AreRangesBehind (k : ChunkData) (from : ℕ) (m : MapData) (parts : List PartData) : Type 0 where
  pub are_parts : AreParts parts
  pub scoped : HaveScope m.scope parts
  pub is_map : IsMapOf (zones_of parts) m
  pub ranges : AreRangesFrom k from parts

-- from its first row on
abbrev pub AreRanges : ChunkData → MapData → List PartData → Type 0
AreRanges k m parts = AreRangesBehind k 0 m parts

-- n values of a column from a place on, of no declared size
abbrev pub range_column : (from n : ℕ) → ColumnData → ColumnData
range_column from n c = record { dtype = c.dtype; values = take n (drop from c.values); size = 0 }

-- n rows of a chunk from one on
abbrev pub range_chunk : ChunkData → (from n : ℕ) → ChunkData
range_chunk k from n = record { scope = k.scope; columns = map (range_column from n) k.columns }

-- the rows of each zone with its sets, from a row on
abbrev pub range_parts : ChunkData → (from : ℕ) → List ZoneData → List PartData
range_parts k from [] = []
range_parts k from (zone ∷ zones) = record { chunk = range_chunk k from zone.rows; stats = zone.stats } ∷ range_parts k (from + zone.rows) zones

-- wherever zones are ranges of a chunk these parts stand in them
abbrev pub RangesAreThere : Type 0
RangesAreThere =
    (k : ChunkData) (m : MapData) (zones : List ZoneData) → IsChunk k → IsMapOf zones m → IsTrue (has_ranges k m) →
    AreRanges k m (range_parts k 0 zones) × (zones_of (range_parts k 0 zones) ≡ zones)

-- and wherever they are ranges of its rows from one on
abbrev pub RangesBehindAreThere : Type 0
RangesBehindAreThere =
    (k : ChunkData) (from : ℕ) (m : MapData) (zones : List ZoneData) → IsChunk k → IsMapOf zones m → IsTrue (has_ranges_from k from m) →
    AreRangesBehind k from m (range_parts k from zones) × (zones_of (range_parts k from zones) ≡ zones)
