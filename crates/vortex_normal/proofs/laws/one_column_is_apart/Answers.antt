use Rattle.vortex_normal.proofs.Joined.{one_column_is_apart}
use Rattle.vortex_normal.proofs.laws.one_column_is_apart.Goals as goal

pub returns : goal.returns
returns c = one_column_is_apart
