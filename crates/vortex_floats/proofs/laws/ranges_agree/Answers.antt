use Rattle.vortex_floats.proofs.Saying.{ranges_agree}
use Rattle.vortex_floats.proofs.laws.ranges_agree.Goals as goal

pub returns : goal.returns
returns c = ranges_agree
