use Rattle.vortex_predicates.proofs.Beyond.{bounded_goes_far}
use Rattle.vortex_predicates.proofs.laws.bounded_goes_far.Goals as goal

pub returns : goal.returns
returns c = bounded_goes_far
