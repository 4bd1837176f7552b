use Rattle.vortex_capi.proofs.Nesting.Depths.{chains_are_shallow}
use Rattle.vortex_capi.proofs.nested.laws.chains_are_shallow.Goals as goal

pub returns : goal.returns
returns c = chains_are_shallow
