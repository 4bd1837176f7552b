use Rattle.vortex_capi.proofs.Nesting.Types.{same_type}
use Rattle.vortex_capi.proofs.nested.laws.has_the_same_type.Goals as goal

pub returns : goal.returns
returns c = same_type
