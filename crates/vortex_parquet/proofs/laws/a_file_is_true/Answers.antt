use Rattle.vortex_parquet.proofs.Witness.{a_file_is_true}
use Rattle.vortex_parquet.proofs.laws.a_file_is_true.Goals as goal

pub returns : goal.returns
returns c = a_file_is_true
