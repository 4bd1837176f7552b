use Rattle.vortex_prune_tests.specs.Counting.{counted_is_honest}
use Rattle.vortex_prune_tests.proofs.bind.knowing.Goals as goal

pub returns-clause-honest : goal.returns-clause-honest
returns-clause-honest c = counted_is_honest
