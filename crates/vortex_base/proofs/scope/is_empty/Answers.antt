use Rattle.vortex_base.proofs.Data.ScopeLemmas.{none_is_empty, some_is_not_empty}
use Rattle.vortex_base.proofs.scope.is_empty.Goals as goal

pub returns-in-None : goal.returns-in-None
returns-in-None c = none_is_empty c.args.columns.now c.in-None.ensures.cases

pub returns-in-Some : goal.returns-in-Some
returns-in-Some c = some_is_not_empty c.args.columns.now _ _ c.in-Some.ensures.cases.0
