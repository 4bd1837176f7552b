use Rattle.std.proofs.Common.{subst}
use Rattle.vortex_prune.proofs.ZoneMaps.ZoneKept.{parts_are_zones}
use Rattle.vortex_zone_map.proofs.ZoneMaps.ZoneKept.{map_is_of}
use Rattle.vortex_prune.specs.Zones.{ZonesData, zones_of}
use Rattle.vortex_zone_map.specs.ZoneMaps.{IsMapOf}
use Rattle.vortex_prune.proofs.zones.Zones.map.Goals as goal

pub returns-clause-is_map : goal.returns-clause-is_map
returns-clause-is_map c =
    let i = c.self.invariant in
    subst (λ (z : ZonesData). IsMapOf (zones_of z.parts) c.self.inside.map) c.self.view_is
    (map_is_of c.self.inside.map c.self.inside.map.scope (zones_of c.self.inside.parts.items) (parts_are_zones c.self.inside.map.scope c.self.inside.parts.items i.scoped i.are_parts) i.mapped)
