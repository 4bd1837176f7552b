use Rattle.vortex_normal.proofs.WorkedNarrowed.{narrowed_examples}
use Rattle.vortex_normal.proofs.laws.narrowed_examples_hold.Goals as goal

pub returns : goal.returns
returns c = narrowed_examples
