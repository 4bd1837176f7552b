use Rattle.vortex_predicates.proofs.Full.{same_selects_the_same}
use Rattle.vortex_predicates.proofs.laws.same_selects_the_same.Goals as goal

pub returns : goal.returns
returns c = same_selects_the_same
