use Rattle.vortex_stats.proofs.Merging.Groupings.{upper_union-greatest, lower_union-least, upper_unions-agree, lower_unions-agree}
use Rattle.vortex_stats.proofs.laws.unions_agree.Goals as goal

pub returns : goal.returns
returns g c = record {
  greatest = upper_union-greatest g.met.T.Ord.total;
  least = lower_union-least g.met.T.Ord.total;
  upper = upper_unions-agree g.met.T.Ord.total;
  lower = lower_unions-agree g.met.T.Ord.total;
}
