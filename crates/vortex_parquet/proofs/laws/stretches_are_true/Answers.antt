use Rattle.vortex_parquet.proofs.PageTruth.{stretches_true}
use Rattle.vortex_parquet.proofs.laws.stretches_are_true.Goals as goal

pub returns : goal.returns
returns c = stretches_true
