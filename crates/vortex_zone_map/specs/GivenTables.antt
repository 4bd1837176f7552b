-- A table of zones that is handed in, and its map.
use Rattle.std.specs.Prelude.{◌≡◌, ◌==◌, ◌&&◌, ◌⊎◌, ℕ, Bool, false, List, length, map}
use lib.Pointwise.{pointwise}
use Rattle.vortex_base.specs.Data.Columns.{ChunkData, ColumnData}
use Rattle.vortex_base.specs.Data.Scopes.{Named}
use Rattle.vortex_base.specs.Data.Types.{dtype_eq}
use Rattle.vortex_rewrite.specs.Answers.{IsMemory}
use Rattle.vortex_stats.specs.declared.error.StatsError.{StatsError}
use Rattle.vortex_stats.specs.declared.error.StatsError.TheVariants.{Mismatch}
use Rattle.vortex_zone_map.specs.Zone.{AreZonesOf, ZoneData}
use Rattle.vortex_zone_map.specs.ZoneMaps.{StatColumn, MapData, heads, named_head, zone_columns}

-- the column may stand under the head in a table of n zones: it has the head's type, a value for each zone, and declares no size
abbrev pub stands_under : ℕ → StatColumn → ColumnData → Bool
stands_under n h c = dtype_eq h.dtype c.dtype && (length c.values == n && c.size == 0)

-- there is one for each head, in their order
abbrev pub all_stand : ℕ → List StatColumn → List ColumnData → Bool
all_stand n hs cs = pointwise (stands_under n) hs cs

-- the columns may be those of the table of n zones of a scope
abbrev pub is_table : ℕ → List Named → List ColumnData → Bool
is_table n scope cs = all_stand n (heads scope) cs

-- the chunk of columns under names
abbrev pub chunk_with : List Named → List ColumnData → ChunkData
chunk_with names cs = record { scope = names; columns = cs }

-- the map of zones of so many rows each whose table has these columns
abbrev pub map_with : List Named → List ℕ → List ColumnData → MapData
map_with scope rows cs = record { scope = scope; rows = rows; table = chunk_with (map named_head (heads scope)) cs }

-- why no map is made of columns: memory is refused, or they make no table
abbrev pub IsNoTable : ℕ → List Named → List ColumnData → StatsError → Type 0
IsNoTable n scope cs f = IsMemory f ⊎ ((f ≡ Mismatch) × (is_table n scope cs ≡ false))

-- these are the row counts of zones of the scope, and the columns are what their sets tell
pub record IsTableOf (scope : List Named) (zones : List ZoneData) (rows : List ℕ) (cs : List ColumnData) : Type 0 where
  pub are_zones : AreZonesOf scope zones
  pub counted : rows ≡ map (λ zone. zone.rows) zones
  pub told : cs ≡ zone_columns scope zones
