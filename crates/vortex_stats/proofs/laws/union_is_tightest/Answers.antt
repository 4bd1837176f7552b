use Rattle.vortex_stats.proofs.Bounds.Tightness.{upper_union-tightest, lower_union-tightest}
use Rattle.vortex_stats.proofs.laws.union_is_tightest.Goals as goal

pub returns : goal.returns
returns g c = record { upper = upper_union-tightest g.met.T.Ord.total; lower = lower_union-tightest g.met.T.Ord.total }
