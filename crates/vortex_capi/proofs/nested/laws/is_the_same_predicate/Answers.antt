use Rattle.vortex_capi.proofs.Nesting.Types.{same_predicate}
use Rattle.vortex_capi.proofs.nested.laws.is_the_same_predicate.Goals as goal

pub returns : goal.returns
returns c = same_predicate
