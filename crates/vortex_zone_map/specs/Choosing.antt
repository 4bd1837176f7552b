-- Some columns of a zone, in an order of the caller's own, and what is known of them alone.
use Rattle.std.specs.Prelude.{ℕ, nat_lt, Bool, List, slice_get}
use Rattle.std.specs.List.{filter_map, list_all}
use Rattle.vortex_zone_map.specs.Zone.{ZoneData}

-- the elements at these places, in the order of the places
abbrev pub chosen : {X : Type 0} → List ℕ → List X → List X
chosen places xs = filter_map (slice_get xs) places

-- each is the place of one of so many elements
abbrev pub are_places : ℕ → List ℕ → Bool
are_places n places = list_all (λ place. nat_lt place n) places

-- the zone of the columns at these places
abbrev pub chosen_zone : List ℕ → ZoneData → ZoneData
chosen_zone places zone = record { rows = zone.rows; stats = chosen places zone.stats }
