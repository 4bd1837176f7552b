use Rattle.vortex_predicates.proofs.Beyond.{beyond_goes_far}
use Rattle.vortex_predicates.proofs.laws.beyond_goes_far.Goals as goal

pub returns : goal.returns
returns c = beyond_goes_far
