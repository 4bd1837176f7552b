-- The table of a map in the making: which column of it reads what is told, and of which zones its cells tell.
use Rattle.std.specs.Prelude.{◌≡◌, ◌==◌, ◌&&◌, ◌+◌, ◌*◌, ◌<◌, ◌≤◌, ℕ, Bool, true, false, List, Option, None, Some, length, map, replicate, slice_get}
use Rattle.vortex_base.specs.Data.ArrayData.{cell_values}
use Rattle.vortex_base.specs.declared.array_data.ArrayData.{ArrayData}
use Rattle.vortex_base.specs.declared.scalar_value.ScalarValue.{ScalarValue}
use Rattle.vortex_zone_map.specs.StatValues.{read_stat}
use Rattle.vortex_zone_map.specs.Zone.{ZoneData}
use Rattle.vortex_zone_map.specs.ZoneMaps.{EachTells, StatColumn, zone_value}
use Rattle.vortex_stats.specs.Stat.{stat_eq, stat_number}
use Rattle.vortex_stats.specs.declared.stat.Stat.{Stat}
use Rattle.vortex_zone_map.specs.Kept.{Saying}
use Rattle.vortex_zone_map.specs.Logs.{empty_sets, set_at}
use Rattle.vortex_zone_map.specs.declared.links.Links.{Links}

-- ---- which columns read what is told

abbrev pub is_read : Stat → Option Stat → Bool
is_read s None = false
is_read s (Some t) = stat_eq s t

-- the head tells of the column at a place by this statistic
abbrev pub reads : StatColumn → ℕ → Stat → Bool
reads h i s = (h.source == i) && is_read s (read_stat h.aggregate)

-- the place of a statistic of a column among those of all columns
abbrev pub slot : ℕ → Stat → ℕ
slot i s = i * 9 + stat_number s

-- from a place on, the first head that reads a statistic of the column at a place, or the number of heads
pub record IsNextReader (heads : List StatColumn) (i : ℕ) (s : Stat) (from n : ℕ) : Type 0 where
  pub behind : from ≤ n
  pub within : n ≤ length heads
  pub unread : (k : ℕ) (h : StatColumn) → slice_get heads k ≡ Some h → from ≤ k → k < n → reads h i s ≡ false
  pub read : (h : StatColumn) → slice_get heads n ≡ Some h → reads h i s ≡ true

-- of the heads from a place on it is known which one is the first to read a statistic of those that have a place, and which one is the next
pub record AreLinked (heads : List StatColumn) (from : ℕ) (l : Links) : Type 0 where
  pub long : length l.nexts.items ≡ length heads
  pub first : (i : ℕ) (s : Stat) (n : ℕ) → slice_get l.firsts.items (slot i s) ≡ Some n → IsNextReader heads i s from n
  pub next : (k : ℕ) (h : StatColumn) (i : ℕ) (s : Stat) (n : ℕ) → from ≤ k → slice_get heads k ≡ Some h → reads h i s ≡ true → slot i s < length l.firsts.items → slice_get l.nexts.items k ≡ Some n → IsNextReader heads i s (k + 1) n

-- ---- of which zones cells tell

-- what zones tell under a head
abbrev pub under : StatColumn → List ZoneData → List (Option ScalarValue)
under h zones = map (zone_value h.aggregate h.source) zones

-- there are cells for each head, and they are what the zones tell
pub record AreCells (heads : List StatColumn) (zones : List ZoneData) (cells : List ArrayData) : Type 0 where
  pub long : length cells ≡ length heads
  pub told : (k : ℕ) (h : StatColumn) (c : ArrayData) → slice_get heads k ≡ Some h → slice_get cells k ≡ Some c → cell_values c ≡ under h zones

-- so many cells are null for each of so many heads
pub record AreBlank (heads : List StatColumn) (n : ℕ) (cells : List ArrayData) : Type 0 where
  pub long : length cells ≡ length heads
  pub blank : (k : ℕ) (c : ArrayData) → slice_get cells k ≡ Some c → cell_values c ≡ replicate n None

-- the zone with what is said
abbrev pub with_saying : Saying → ZoneData → ZoneData
with_saying t zone = record { rows = zone.rows; stats = set_at t.column t.stat t.value zone.stats (slice_get zone.stats t.column) }

-- the zone of as many rows of which nothing is known
abbrev pub blank_zone : ℕ → ZoneData → ZoneData
blank_zone n zone = record { rows = zone.rows; stats = empty_sets n }

-- cells of zones of which each head tells
pub record IsTable (heads : List StatColumn) (table : List ArrayData) : Type 0 where
  pub zones : List ZoneData
  pub tells : (k : ℕ) (h : StatColumn) → slice_get heads k ≡ Some h → EachTells zones h
  pub cells : AreCells heads zones table
