use Rattle.std.proofs.Common.{List, ap, subst, ◌∙◌}
use Rattle.vortex_prune.proofs.ZoneMaps.ZoneKept.{zones_are_kept}
use Rattle.vortex_prune.specs.Part.{AreParts, PartData}
use Rattle.vortex_prune.specs.Zones.{zones_of}
use Rattle.vortex_zone_map.specs.ZoneMaps.{zone_map}
use Rattle.vortex_prune.proofs.zones.Zones.try_new.Goals as goal

pub invariant_of-result : goal.invariant_of-result
invariant_of-result c =
    zones_are_kept c.args.scope c.args.parts.items c.in-Ok.map c.requires (subst (λ (ps : List PartData). AreParts ps) c.deref.ensures.value c.in-Ok.ensures.parts)
    (c.in-Ok.ensures.made ∙ ap (λ ps. zone_map c.args.scope (zones_of ps)) c.deref.ensures.value)
