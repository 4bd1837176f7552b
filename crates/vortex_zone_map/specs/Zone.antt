-- Zones: how many rows stand together, and a set of statistics for each of their columns, without the rows.
use Rattle.std.specs.Prelude.{◌≡◌, ℕ, Some, slice_get, Bool, List, [], ◌∷◌, IsTrue, map}
use Rattle.std.specs.List.{list_all}
use lib.Pointwise.{pointwise}
use Rattle.vortex_base.specs.declared.dtype.DType.{DType}
use Rattle.vortex_base.specs.declared.scalar_value.ScalarValue.{ScalarValue}
use Rattle.vortex_base.specs.Data.Scopes.{Named}
use Rattle.vortex_stats.specs.Sets.Entries.{entries_fit}
use Rattle.vortex_stats.specs.Merging.Merges.{merged_ordered}
use Rattle.vortex_stats.specs.declared.precision.Precision.{Precision}
use Rattle.vortex_stats.specs.declared.stat.Stat.{Stat}

-- a set of statistics, as the list of its entries
abbrev pub Entries : Type 0
Entries = List (Stat × Precision ScalarValue)

-- there is one set a type, and each fits it
abbrev pub each_fits : List DType → List Entries → Bool
each_fits ts ss = pointwise (λ t es. entries_fit es t) ts ss

-- a zone: a number of rows, and a set for each of their columns, without the rows
pub record ZoneData : Type 0 where
  pub rows : ℕ
  pub stats : List Entries

-- there is one set for each column of a scope, and each fits its column's type
abbrev pub fits_zone : List Named → List Entries → Bool
fits_zone scope ss = each_fits (map (λ c. c.1) scope) ss

abbrev pub IsZone : List Named → ZoneData → Type 0
IsZone scope zone = IsTrue (fits_zone scope zone.stats)

-- a zone beside the scope of its columns
pub record ScopedZone : Type 0 where
  pub scope : List Named
  pub zone : ZoneData

-- each of a list of zones
abbrev pub AreZonesOf : List Named → List ZoneData → Type 0
AreZonesOf scope zones = (i : ℕ) (zone : ZoneData) → slice_get zones i ≡ Some zone → IsZone scope zone

-- those of each of a list of zones
abbrev pub zones_fit : List Named → List ZoneData → Bool
zones_fit scope zones = list_all (λ zone. fits_zone scope zone.stats) zones

-- each set merged with the one beside it
abbrev pub merged_sets : List Entries → List Entries → List Entries
merged_sets (a ∷ as') (b ∷ bs) = merged_ordered a b ∷ merged_sets as' bs
merged_sets as' bs = []
