-- The statistics of zones one after another, and those of a zone that hasn't ended.
use Rattle.std.specs.Prelude.{◌≡◌, ◌<◌, ◌+◌, ◌^◌, ℕ, List, [], ◌∷◌, ◌++◌, Option, None, Some, drop, length, option_and_then, replicate, slice_get, slice_set, take}
use Rattle.vortex_base.specs.Data.Scopes.{Named}
use Rattle.vortex_base.specs.declared.scalar_value.ScalarValue.{ScalarValue}
use Rattle.vortex_zone_map.specs.Zone.{Entries, IsZone, ZoneData, merged_sets}
use Rattle.vortex_stats.specs.Sets.Entries.{with_entry}
use Rattle.vortex_stats.specs.declared.precision.Precision.{Precision}
use Rattle.vortex_stats.specs.declared.stat.Stat.{Stat}

-- the zones that have ended, in order, and the sets of the one that hasn't
pub record LogData : Type 0 where
  pub zones : List ZoneData
  pub current : List Entries

-- a set for each of so many columns, of which nothing is known
abbrev pub empty_sets : ℕ → List Entries
empty_sets n = replicate n []

-- the sets with this value of the statistic in the one at a place, if there is one
abbrev pub set_at : ℕ → Stat → Precision ScalarValue → List Entries → Option Entries → List Entries
set_at i s p sets None = sets
set_at i s p sets (Some set) = slice_set sets i (with_entry s p set)

-- the log with this value of the statistic of a column of the zone that hasn't ended
abbrev pub with_told : ℕ → Stat → Precision ScalarValue → LogData → LogData
with_told i s p log = record { zones = log.zones; current = set_at i s p log.current (slice_get log.current i) }

-- that zone has ended, with so many rows, and nothing is known of the next one
abbrev pub ended : ℕ → LogData → LogData
ended rows log = record { zones = log.zones ++ record { rows = rows; stats = log.current } ∷ []; current = empty_sets (length log.current) }

-- two neighbouring zones as one
abbrev pub joined : ZoneData → ZoneData → ZoneData
joined left right = record { rows = left.rows + right.rows; stats = merged_sets left.stats right.stats }

-- the zones with the one at a place and the one behind it joined, and the later ones moved down by one
abbrev pub joined_at : ℕ → List ZoneData → Option (List ZoneData)
joined_at i zones = option_and_then (λ left. option_and_then (λ right. Some (take i zones ++ joined left right ∷ drop (i + 2) zones)) (slice_get zones (i + 1))) (slice_get zones i)

-- two zones of one scope have row counts that add up within 64 bits
pub record MayJoin (scope : List Named) (left right : ZoneData) : Type 0 where
  pub left_fits : IsZone scope left
  pub right_fits : IsZone scope right
  pub rows : left.rows + right.rows < 2 ^ 64

-- so do the one at a place and the one behind it, if they are there
abbrev pub MayJoinAt : List Named → ℕ → List ZoneData → Type 0
MayJoinAt scope i zones = (left right : ZoneData) → slice_get zones i ≡ Some left → slice_get zones (i + 1) ≡ Some right → MayJoin scope left right

-- so many zones from a place on
abbrev pub zones_from : ℕ → ℕ → List ZoneData → List ZoneData
zones_from from n zones = take n (drop from zones)
