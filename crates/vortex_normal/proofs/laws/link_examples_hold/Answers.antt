use Rattle.vortex_normal.proofs.WorkedLinks.{link_examples}
use Rattle.vortex_normal.proofs.laws.link_examples_hold.Goals as goal

pub returns : goal.returns
returns c = link_examples
