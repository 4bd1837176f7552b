use Rattle.std.proofs.Common.{◌≡◌, drop}
use Rattle.vortex_zone_map.specs.Zone.{fits_zone}
use Rattle.vortex_zone_map.proofs.zone.sets_fit.Given as goal

-- the sets so far fit, so the rest decides
abbrev pub invariant-loop-i : goal.invariant-loop-i
invariant-loop-i l = fits_zone (drop l.i l.scope) (drop l.i l.zone.stats) ≡ fits_zone l.scope l.zone.stats
