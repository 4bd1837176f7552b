use Rattle.std.proofs.Common.{◌≡◌, drop}
use Rattle.vortex_zone_map.specs.Zone.{zones_fit}
use Rattle.vortex_zone_map.proofs.zone_map.zones_fit.Given as goal

-- the zones so far fit, so the rest decides
abbrev pub invariant-loop-zone : goal.invariant-loop-zone
invariant-loop-zone l = zones_fit l.scope (drop l.zone-index l.zones) ≡ zones_fit l.scope l.zones
