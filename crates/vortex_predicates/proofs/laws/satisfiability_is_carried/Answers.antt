use Rattle.vortex_predicates.proofs.Carried.{satisfiability_is_carried}
use Rattle.vortex_predicates.proofs.laws.satisfiability_is_carried.Goals as goal

pub returns : goal.returns
returns c = satisfiability_is_carried
