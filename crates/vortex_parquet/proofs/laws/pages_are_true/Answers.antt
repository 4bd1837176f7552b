use Rattle.vortex_parquet.proofs.PageWitness.{pages_are_true}
use Rattle.vortex_parquet.proofs.laws.pages_are_true.Goals as goal

pub returns : goal.returns
returns c = pages_are_true
