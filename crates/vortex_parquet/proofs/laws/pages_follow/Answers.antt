use Rattle.vortex_parquet.proofs.Following.{pages_follow}
use Rattle.vortex_parquet.proofs.laws.pages_follow.Goals as goal

pub returns : goal.returns
returns c = pages_follow
