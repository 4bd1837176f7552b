use Rattle.jiff.specs.Words.{epoch_day}
use Rattle.jiff_core.proofs.DateLemmas.{epoch_day_range}
use Rattle.vortex_literals.proofs.intervals.date_of.Goals as goal

pub returns-in-None : goal.returns-in-None
returns-in-None c = λ d h. c.in-None.ensures (epoch_day d) (epoch_day_range d, h)
