use Rattle.vortex_normal.proofs.Joined.{joinings_are_apart}
use Rattle.vortex_normal.proofs.laws.joinings_are_apart.Goals as goal

pub returns : goal.returns
returns c = joinings_are_apart
