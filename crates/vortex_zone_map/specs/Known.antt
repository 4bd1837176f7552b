-- Zones with the sets of their columns.
use Rattle.vortex_zone_map.specs.Zone.{ZoneData}
use Rattle.vortex_zone_map.specs.declared.known.Known.{Known}

-- the zone that is known so
abbrev pub known_zone : Known → ZoneData
known_zone k = record { rows = k.rows; stats = k.sets.items }
