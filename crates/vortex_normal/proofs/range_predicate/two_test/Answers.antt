use Rattle.std.proofs.Common.{ap, sym, option_map, ◌∙◌}
use Rattle.std.proofs.lemmas.Bool.{and_parts}
use Rattle.vortex_normal.specs.Intervals.{interval_of, place_at}
use Rattle.vortex_normal.proofs.Fits.{hole_fits}
use Rattle.vortex_normal.proofs.range_predicate.two_test.Goals as goal

pub compared-requires-clause-value : goal.compared-requires-clause-value
compared-requires-clause-value c =
    let i = interval_of c.args.first.now in
    let j = interval_of c.args.second.now in
    hole_fits (place_at c.args.place c.args.dtype) i.low i.high j.low j.high c.in-Some.value.now (and_parts _ _ c.requires.first).1
    (sym c.only_hole.ensures ∙ ap (option_map (λ v. v.now)) c.in-Some.is)

pub between_cuts-requires-clause-high : goal.between_cuts-requires-clause-high
between_cuts-requires-clause-high c = (and_parts _ _ c.requires.first).1

pub between_cuts-requires-in-None-clause-high : goal.between_cuts-requires-in-None-clause-high
between_cuts-requires-in-None-clause-high c = (and_parts _ _ c.requires.second).1
