use Rattle.std.proofs.Common.{List, subst, sym, ◌∙◌}
use Rattle.vortex_prune.proofs.ZoneMaps.ZoneKept.{parts_are_zones}
use Rattle.vortex_zone_map.specs.Zone.{AreZonesOf, ZoneData}
use Rattle.vortex_prune.proofs.zones.map_of_parts.Goals as goal

pub map_of-requires : goal.map_of-requires
map_of-requires c = subst (λ (zs : List ZoneData). AreZonesOf c.args.scope zs) (sym (c.deref.ensures.value ∙ c.in-Ok.ensures.zones)) (parts_are_zones c.args.scope c.args.parts.now c.requires c.in-Ok.ensures.parts)
