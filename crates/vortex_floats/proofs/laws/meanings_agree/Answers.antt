use Rattle.vortex_floats.proofs.Saying.{meanings_agree}
use Rattle.vortex_floats.proofs.laws.meanings_agree.Goals as goal

pub returns : goal.returns
returns c = meanings_agree
