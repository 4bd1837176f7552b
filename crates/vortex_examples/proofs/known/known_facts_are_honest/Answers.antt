use Rattle.vortex_examples.specs.KnownFaithful.{known_facts_are_honest}
use Rattle.vortex_examples.proofs.known.known_facts_are_honest.Goals as goal

pub returns : goal.returns
returns c = known_facts_are_honest
