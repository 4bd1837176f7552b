use Rattle.vortex_stats.proofs.Sets.SlotLemmas.{all_left}
use Rattle.vortex_stats.proofs.stats_set.StatsSetIntoIterator.into_iter.Goals as goal

pub invariant_of-result : goal.invariant_of-result
invariant_of-result c = rw c.into_iter.ensures.into_iter_gives.0 (all_left c.self.inside.slots c.self.inside.order.items c.self.inside.order.capacity c.self.invariant)
