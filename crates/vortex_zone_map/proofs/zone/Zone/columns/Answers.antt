use Rattle.std.proofs.Common.{ap, length, subst, sym, ◌∙◌}
use Rattle.vortex_zone_map.proofs.ChosenPlaces.{chosen_long}
use Rattle.vortex_zone_map.specs.Zone.{ZoneData}
use Rattle.vortex_zone_map.specs.ZoneSets.{AreWithin, all_sets}
use Rattle.vortex_zone_map.proofs.zone.Zone.columns.Goals as goal

pub returns-in-At : goal.returns-in-At
returns-in-At c =
    let within = subst AreWithin c.in-At.is c.self.invariant in
    sym (chosen_long c.in-At.field-0.now c.in-At.places.now within) ∙ ap (λ s. length (all_sets s)) (sym c.in-At.is) ∙ ap (λ (z : ZoneData). length z.stats) c.self.view_is
