use Rattle.vortex_predicates.proofs.Rows.{proof_examples}
use Rattle.vortex_predicates.proofs.laws.proof_examples_hold.Goals as goal

pub returns : goal.returns
returns c = proof_examples
