use Rattle.std.proofs.Common.{◌≡◌, map, take}
use Rattle.vortex_zone_map.specs.Zone.{ZoneData}
use Rattle.vortex_zone_map.proofs.zone_map.rows_of.Given as goal

abbrev pub invariant-loop-zone : goal.invariant-loop-zone
invariant-loop-zone l = l.rows.items ≡ map (λ (zone : ZoneData). zone.rows) (take l.zone-index l.zones)
