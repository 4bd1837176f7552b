use Rattle.vortex_normal.proofs.Depth.{sets_are_shallow}
use Rattle.vortex_normal.proofs.laws.sets_are_shallow.Goals as goal

pub returns : goal.returns
returns c = sets_are_shallow
