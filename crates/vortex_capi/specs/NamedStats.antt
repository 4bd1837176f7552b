-- The aggregates that proofs name.
use Rattle.std.specs.Prelude.{◌≡◌, ℕ, ◌+◌, ◌*◌, ◌==◌, ◌&&◌, ◌||◌, Bool, true, false, List, Option, None, Some, IsTrue, length, map, slice_get}
use Rattle.vortex_base.specs.declared.aggregate.AggregateFnRef.{AggregateFnRef}
use Rattle.vortex_base.specs.declared.aggregate.AggregateFnRef.TheVariants as aggregate
use Rattle.vortex_base.specs.Data.Columns.{ColumnData}
use Rattle.vortex_expr.specs.Trees.Tree.{Place, Tree, between, binary, column, is_not_null, is_null, like, literal, not, row_count, stat}
use Rattle.vortex_expr.specs.Trees.TreeEq.{aggregate_eq}
use Rattle.vortex_zone_map.specs.GivenTables.{is_table}
use Rattle.vortex_zone_map.specs.Zone.{ZoneData}
use Rattle.vortex_zone_map.specs.ZoneMaps.{StatColumn, MapData, heads, zone_column}

-- ---- the placeholders of a proof

-- the aggregate of an input is this one of the column at a place
abbrev pub asks : AggregateFnRef → Tree Place → ℕ → AggregateFnRef → Bool
asks f (column c) i g = (c.index == i) && aggregate_eq f g
asks f x i g = false

-- a placeholder of the tree asks for it
abbrev pub names : Tree Place → ℕ → AggregateFnRef → Bool
names (column c) i g = false
names (literal c) i g = false
names (binary o l r) i g = names l i g || names r i g
names (between o x l u) i g = (names x i g || names l i g) || names u i g
names (is_null x) i g = names x i g
names (is_not_null x) i g = names x i g
names (not x) i g = names x i g
names (like o x p) i g = names x i g || names p i g
names (stat f x) i g = asks f x i g
names row_count i g = false

abbrev pub names_if : Option (Tree Place) → ℕ → AggregateFnRef → Bool
names_if None i g = false
names_if (Some e) i g = names e i g

-- one of the two proofs names it
abbrev pub either_names : (falsifier satisfier : Option (Tree Place)) → ℕ → AggregateFnRef → Bool
either_names f t i g = names_if f i g || names_if t i g

-- what stands below a head
abbrev pub names_head : (falsifier satisfier : Option (Tree Place)) → StatColumn → Bool
names_head f t h = either_names f t h.source h.aggregate

-- ---- marks of what they name

-- the number of an aggregate
abbrev pub code : AggregateFnRef → ℕ
code aggregate.Max = 0
code aggregate.Min = 1
code aggregate.Sum = 2
code aggregate.NullCount = 3
code aggregate.NanCount = 4
code aggregate.UncompressedSizeInBytes = 5
code aggregate.AllNull = 6
code aggregate.AllNonNull = 7
code aggregate.MinMax = 8

-- the place of an aggregate of a column among those of all columns
abbrev pub mark_place : ℕ → AggregateFnRef → ℕ
mark_place i g = i * 9 + code g

-- each aggregate of a column that has a place is marked if it is asked for
pub record AreMarks (asked : ℕ → AggregateFnRef → Bool) (marks : List Bool) : Type 0 where
  pub told : (i : ℕ) (g : AggregateFnRef) (b : Bool) → slice_get marks (mark_place i g) ≡ Some b → b ≡ asked i g

-- ---- a table that has what they name

-- below each head that is named stands the column of these zones, whatever stands below the others
abbrev pub AreNamed : (named : List Bool) → List StatColumn → List ZoneData → List ColumnData → Type 0
AreNamed named hs zones cs = (k : ℕ) (h : StatColumn) (c : ColumnData) → slice_get hs k ≡ Some h → slice_get named k ≡ Some true → slice_get cs k ≡ Some c → c ≡ zone_column zones h

-- the map has the zones' row counts, and their columns below the heads that are named
pub record HasNamed (named : List Bool) (zones : List ZoneData) (m : MapData) : Type 0 where
  pub counted : m.rows ≡ map (λ zone. zone.rows) zones
  pub table : IsTrue (is_table (length m.rows) m.scope m.table.columns)
  pub told : AreNamed named (heads m.scope) zones m.table.columns
