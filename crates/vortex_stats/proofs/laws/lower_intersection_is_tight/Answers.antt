use Rattle.vortex_stats.specs.Bounds.LowerBound.{lower_intersection-tight}
use Rattle.vortex_stats.proofs.laws.lower_intersection_is_tight.Goals as goal

pub returns : goal.returns
returns g c = lower_intersection-tight g.met.T.Ord.total
