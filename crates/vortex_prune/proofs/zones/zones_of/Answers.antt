use Rattle.std.proofs.Common.{◌++◌, [], ◌∷◌, ap, arith, ◌∙◌}
use Rattle.vortex_prune.proofs.Scanning.ScanLemmas.{all_below, below_more}
use Rattle.vortex_zone_map.proofs.ZoneMaps.ZoneTables.{mapped_more}
use Rattle.vortex_prune.specs.Part.{zone_of}
use Rattle.vortex_prune.proofs.zones.zones_of.Goals as goal

pub loop-place-preserved : goal.loop-place-preserved
loop-place-preserved c = record {
  parts = below_more c.loop-place.place c.args.parts.now _ c.loop-place-test.true c.index-parts-place.is c.zone.ensures.is_part c.loop-place.invariant.parts;
  zones =
      c.in_ok-push.ensures.items
      ∙ ap (λ z. c.loop-place.zones.items ++ z ∷ []) c.zone.ensures.value
      ∙ mapped_more zone_of c.args.parts.now c.loop-place.place c.index-parts-place.result c.loop-place.zones.items c.loop-place-test.true c.index-parts-place.is c.loop-place.invariant.zones;
}

pub returns-clause-parts : goal.returns-clause-parts
returns-clause-parts c = all_below c.loop-place.place c.args.parts.now (omega (arith, c.loop-place-test.false)) c.loop-place.invariant.parts
