use Rattle.vortex_capi.proofs.Nesting.Apart.{same_apart}
use Rattle.vortex_capi.proofs.nested.laws.is_as_decided.Goals as goal

pub returns : goal.returns
returns c = same_apart
