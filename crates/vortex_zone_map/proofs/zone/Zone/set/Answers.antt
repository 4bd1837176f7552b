use Rattle.std.proofs.Common.{◌<◌, ap, length, subst, sym, ◌∙◌}
use Rattle.vortex_zone_map.proofs.ChosenPlaces.{chosen_long}
use Rattle.vortex_zone_map.specs.Zone.{ZoneData}
use Rattle.vortex_zone_map.specs.ZoneSets.{AreWithin, all_sets}
use Rattle.vortex_zone_map.proofs.zone.Zone.set.Goals as goal

pub set_chosen-requires-clause-there : goal.set_chosen-requires-clause-there
set_chosen-requires-clause-there c =
    let within = subst AreWithin c.in-At.is c.self.invariant in
    let long = sym (ap (λ (z : ZoneData). length z.stats) c.self.view_is) ∙ ap (λ s. length (all_sets s)) c.in-At.is ∙ chosen_long c.in-At.sets.now c.in-At.places.now within in
    subst (λ n. c.args.i < n) long c.requires
