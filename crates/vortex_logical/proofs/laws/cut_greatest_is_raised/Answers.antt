use Rattle.vortex_logical.proofs.Dividing.{cut_above}
use Rattle.vortex_logical.proofs.laws.cut_greatest_is_raised.Goals as goal

pub returns : goal.returns
returns c = cut_above
