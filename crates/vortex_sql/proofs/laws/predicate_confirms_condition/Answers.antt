use Rattle.vortex_sql.proofs.Refuting.{confirms}
use Rattle.vortex_sql.proofs.laws.predicate_confirms_condition.Goals as goal

pub returns : goal.returns
returns c = confirms
