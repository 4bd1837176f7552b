use Rattle.std.proofs.Common.{ap, ◌∙◌, FitsSigned}
use Rattle.std.specs.Int.{w128}
use Rattle.std.proofs.lemmas.Int.{to_z-of_z}
use Rattle.jiff.specs.Words.{time_nanos, epoch_day, civil_nanos}
use Rattle.vortex_literals.specs.Clocks.{nanos}
use Rattle.vortex_literals.proofs.FirstDay.{first_day, less_nothing, first_clock, civil_nanos-read}
use Rattle.vortex_literals.proofs.clocks.clock_number.Goals as goal

pub returns : goal.returns
returns c =
    let f : FitsSigned w128 c.as_nanos-nanos.result = record { sfits = c.as_nanos-nanos.type_inv } in
    let e = c.date.ensures in
    let t = c.to_datetime-first.ensures in
    c.seconds_of.ensures ∙ ap nanos (to_z-of_z w128 _ f ∙ c.as_nanos-nanos.ensures.value ∙ c.duration_since.ensures
    ∙ less_nothing (civil_nanos c.args.clock) (civil_nanos c.to_datetime-first.result)
    (first_clock c.to_datetime-first.result (ap epoch_day t.date ∙ first_day _ _ _ e.0 e.1 e.2) (ap time_nanos t.time ∙ c.midnight.ensures))
    ∙ civil_nanos-read c.args.clock)
