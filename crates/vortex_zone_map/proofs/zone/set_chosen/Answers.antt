use Rattle.std.proofs.Common.{get_or, ◌∙◌}
use Rattle.std.proofs.lemmas.Option.{slice_get-get_or}
use Rattle.vortex_zone_map.proofs.ChosenPlaces.{chosen_at, place_there}
use Rattle.vortex_zone_map.proofs.zone.set_chosen.Goals as goal

pub set_at-requires : goal.set_at-requires
set_at-requires c = place_there c.args.sets.now c.args.places.now c.args.i (get_or c.args.places.now c.args.i 0) c.requires.within (slice_get-get_or c.args.places.now c.args.i 0 c.requires.there)

pub returns : goal.returns
returns c =
    chosen_at c.args.sets.now c.args.places.now c.args.i (get_or c.args.places.now c.args.i 0) c.requires.within (slice_get-get_or c.args.places.now c.args.i 0 c.requires.there)
    ∙ c.set_at.ensures
