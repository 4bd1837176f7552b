use Rattle.vortex_predicates.proofs.CompleteRows.{complete_examples}
use Rattle.vortex_predicates.proofs.laws.complete_examples_hold.Goals as goal

pub returns : goal.returns
returns c = complete_examples
