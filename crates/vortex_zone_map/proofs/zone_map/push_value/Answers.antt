use Rattle.vortex_zone_map.proofs.ZoneLemmas.{set_within}
use Rattle.vortex_zone_map.proofs.zone_map.push_value.Goals as goal

pub zone_value-requires : goal.zone_value-requires
zone_value-requires c = set_within c.args.scope.now c.args.zone.now c.args.source c.requires.fits c.requires.within
