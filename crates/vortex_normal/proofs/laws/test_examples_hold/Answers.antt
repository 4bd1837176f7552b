use Rattle.vortex_normal.proofs.WorkedTests.{test_examples}
use Rattle.vortex_normal.proofs.laws.test_examples_hold.Goals as goal

pub returns : goal.returns
returns c = test_examples
