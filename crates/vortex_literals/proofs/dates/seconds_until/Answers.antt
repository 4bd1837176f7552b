use Rattle.std.proofs.Common.{◌∙◌, FitsSigned}
use Rattle.std.specs.Int.{w64}
use Rattle.std.proofs.lemmas.Int.{to_z-of_z}
use Rattle.jiff.specs.Words.{epoch_day}
use Rattle.vortex_literals.proofs.FirstDay.{first_day, seconds_of_days}
use Rattle.vortex_literals.proofs.dates.seconds_until.Goals as goal

pub returns : goal.returns
returns c =
    let f : FitsSigned w64 c.as_secs.result = record { sfits = c.as_secs.type_inv } in
    let e = c.date.ensures in
    to_z-of_z w64 _ f ∙ c.as_secs.ensures ∙ seconds_of_days _ (epoch_day c.args.day) (epoch_day c.date.result) c.duration_since.ensures (first_day _ _ _ e.0 e.1 e.2)
