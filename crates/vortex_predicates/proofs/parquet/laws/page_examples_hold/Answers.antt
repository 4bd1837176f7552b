use Rattle.vortex_predicates.proofs.Footers.PageWitness.{examples}
use Rattle.vortex_predicates.proofs.parquet.laws.page_examples_hold.Goals as goal

pub returns : goal.returns
returns c = examples
