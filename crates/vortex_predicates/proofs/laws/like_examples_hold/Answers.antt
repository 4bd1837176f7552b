use Rattle.vortex_predicates.proofs.Rows.{like_examples, like_proof_examples}
use Rattle.vortex_predicates.proofs.laws.like_examples_hold.Goals as goal

pub returns-clause-proofs : goal.returns-clause-proofs
returns-clause-proofs c = like_examples

pub returns-clause-predicates : goal.returns-clause-predicates
returns-clause-predicates c = like_proof_examples
