use Rattle.vortex_predicates.proofs.Conditions.Parts.{tell}
use Rattle.vortex_predicates.proofs.sql.laws.proofs_tell_of_conditions.Goals as goal

pub returns : goal.returns
returns c = tell c.predicate_refutes_condition.ensures c.predicate_confirms_condition.ensures
