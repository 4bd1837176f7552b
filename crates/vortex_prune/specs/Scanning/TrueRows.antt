-- Rows of a table of zones that are true of the rows in their zones, whatever the table was made of.
use Rattle.std.specs.Prelude.{◌≡◌, ◌+◌, ℕ, Bool, Contains, List, Option, Some, slice_get, sum, take}
use Rattle.vortex_base.specs.Data.Columns.{ChunkData, ColumnData, IsChunk, cell_value, row_count as rows_of, row_of}
use Rattle.vortex_base.specs.declared.scalar_value.ScalarValue.{ScalarValue}
use Rattle.vortex_expr.specs.Trees.Tree.{Place, Tree}
use Rattle.vortex_prune.specs.Part.{IsPartOf, IsTruePart, PartData}
use Rattle.vortex_zone_map.specs.Zone.{ZoneData}
use Rattle.vortex_prune.specs.Scanning.RangeScans.{IsRange}
use Rattle.vortex_prune.specs.Scanning.ZoneScans.{EachSatisfies}
use Rattle.vortex_zone_map.specs.ZoneMaps.{StatColumn, IsMapOf, MapData, heads}
use Rattle.vortex_rewrite.specs.Facts.{IsFact}

-- what stands in the row at a place r of the table, in its column at a place i
abbrev pub value_in : MapData → (r i : ℕ) → Option ScalarValue
value_in m r i = cell_value (slice_get (row_of r m.table.columns) i)

-- the row of the table at a place is true of a chunk: this has the map's scope and as many rows as the map counts there, and what stands below each head, where it isn't null, is a fact of the column that the head tells of
pub record IsTrueRow (m : MapData) (r : ℕ) (k : ChunkData) : Type 0 where
  pub is_chunk : IsChunk k
  pub scoped : k.scope ≡ m.scope
  pub counted : slice_get m.rows r ≡ Some (rows_of k.columns)
  pub facts : (i : ℕ) (h : StatColumn) (c : ColumnData) → slice_get (heads m.scope) i ≡ Some h → slice_get k.columns h.source ≡ Some c → IsFact h.aggregate (value_in m r i) c.values (Some c.size)

-- whatever rows stand in a zone among these, if its row of the table is true of them: each satisfies the predicate, or each doesn't
abbrev pub EachRowOf : Bool → Tree Place → MapData → (places : List ℕ) → Type 0
EachRowOf b p m places = (r : ℕ) (k : ChunkData) → IsTrueRow m r k → Contains places r → EachSatisfies b p k

-- the map's zones are ranges of a chunk, one behind the other from a row on, and each row of the table is true of the rows in its range
abbrev pub AreTrueRanges : ChunkData → (from : ℕ) → MapData → Type 0
AreTrueRanges k from m = (r n : ℕ) → slice_get m.rows r ≡ Some n → (range : ChunkData) × IsRange k (from + sum (take r m.rows)) range × IsTrueRow m r range

-- in the map of zones the row of each is true of whatever rows stand in the zone, if its statistics are
abbrev pub ZonesHaveTrueRows : Type 0
ZonesHaveTrueRows =
    (m : MapData) (zones : List ZoneData) (i : ℕ) (zone : ZoneData) (part : PartData) → IsMapOf zones m → slice_get zones i ≡ Some zone → IsPartOf m.scope zone part → IsTruePart part →
    IsTrueRow m i part.chunk
