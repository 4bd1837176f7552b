use Rattle.vortex_normal.proofs.Depth.{chains_are_shallow}
use Rattle.vortex_normal.proofs.laws.chains_are_shallow.Goals as goal

pub returns : goal.returns
returns c = chains_are_shallow
