use Rattle.vortex_capi.proofs.Nesting.Columns.{same_evaluation}
use Rattle.vortex_capi.proofs.nested.laws.evaluates_the_same.Goals as goal

pub returns : goal.returns
returns c = same_evaluation
