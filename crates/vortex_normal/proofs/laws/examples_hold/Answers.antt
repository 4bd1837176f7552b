use Rattle.vortex_normal.proofs.Worked.{form_examples}
use Rattle.vortex_normal.proofs.laws.examples_hold.Goals as goal

pub returns : goal.returns
returns c = form_examples
