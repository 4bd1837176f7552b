use Rattle.vortex_normal.proofs.PushedDepth.{normal_is_shallow}
use Rattle.vortex_normal.proofs.laws.normal_is_shallow.Goals as goal

pub returns : goal.returns
returns c = normal_is_shallow
