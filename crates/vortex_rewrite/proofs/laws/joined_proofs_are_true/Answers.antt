use Rattle.vortex_rewrite.proofs.Soundness.TruthLogic.{proves_and, proves_or}
use Rattle.vortex_rewrite.proofs.laws.joined_proofs_are_true.Goals as goal

pub returns-clause-one : goal.returns-clause-one
returns-clause-one c = proves_or

pub returns-clause-both : goal.returns-clause-both
returns-clause-both c = proves_and
