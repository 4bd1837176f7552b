use Rattle.vortex_normal.proofs.WorkedTests.{strict_examples}
use Rattle.vortex_normal.proofs.laws.strict_examples_hold.Goals as goal

pub returns : goal.returns
returns c = strict_examples
