use Rattle.vortex_normal.proofs.Worked.{balanced_examples}
use Rattle.vortex_normal.proofs.laws.balanced_examples_hold.Goals as goal

pub returns : goal.returns
returns c = balanced_examples
