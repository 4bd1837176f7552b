use Rattle.vortex_logical.proofs.FloatTests.{floats_compare}
use Rattle.vortex_logical.proofs.laws.floats_compare_as_numbers.Goals as goal

pub returns : goal.returns
returns c = floats_compare
