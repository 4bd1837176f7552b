use Rattle.vortex_floats.proofs.Saying.{cells_stand}
use Rattle.vortex_floats.proofs.laws.cells_stand_for_floats.Goals as goal

pub returns : goal.returns
returns c = cells_stand
