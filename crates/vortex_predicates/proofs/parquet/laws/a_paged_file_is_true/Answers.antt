use Rattle.vortex_predicates.proofs.Footers.PageWitness.{a_paged_file_is_true}
use Rattle.vortex_predicates.proofs.parquet.laws.a_paged_file_is_true.Goals as goal

pub returns : goal.returns
returns c = a_paged_file_is_true
