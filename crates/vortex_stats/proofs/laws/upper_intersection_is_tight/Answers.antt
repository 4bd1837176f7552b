use Rattle.vortex_stats.specs.Bounds.UpperBound.{upper_intersection-tight}
use Rattle.vortex_stats.proofs.laws.upper_intersection_is_tight.Goals as goal

pub returns : goal.returns
returns g c = upper_intersection-tight g.met.T.Ord.total
