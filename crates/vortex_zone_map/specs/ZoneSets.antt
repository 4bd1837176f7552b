-- The sets of a zone as they are kept: a whole list, or a list with the places of those that are meant.
use Rattle.std.specs.Prelude.{IsTrue, List, length, ⊤}
use Rattle.vortex_zone_map.specs.Choosing.{are_places, chosen}
use Rattle.vortex_zone_map.specs.Zone.{Entries}
use Rattle.vortex_zone_map.specs.declared.zone.Sets.{Sets}
use Rattle.vortex_zone_map.specs.declared.zone.Sets.TheVariants as sets

-- those that are meant
abbrev pub all_sets : Sets → List Entries
all_sets (sets.All ss) = ss.now
all_sets (sets.At ss places) = chosen places.now ss.now

-- each place is that of a set
abbrev pub AreWithin : Sets → Type 0
AreWithin (sets.All ss) = ⊤
AreWithin (sets.At ss places) = IsTrue (are_places (length ss.now) places.now)
