use Rattle.vortex_parquet.proofs.Known.{groups_known}
use Rattle.vortex_parquet.proofs.True.{group_true}
use Rattle.vortex_parquet.proofs.laws.groups_are_true.Goals as goal

pub returns : goal.returns
returns c = record { sets = group_true; known = groups_known }
