use Rattle.vortex_predicates.proofs.Rows.{joint_examples}
use Rattle.vortex_predicates.proofs.laws.joint_examples_hold.Goals as goal

pub returns : goal.returns
returns c = joint_examples
