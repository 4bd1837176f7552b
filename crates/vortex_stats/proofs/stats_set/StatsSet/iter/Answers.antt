use Rattle.std.proofs.Common.{◌≤◌, subst, length}
use Rattle.vortex_stats.specs.Sets.Slots.{slot_entries}
use Rattle.vortex_stats.proofs.Sets.SlotLemmas.{all_left, length-distinct}
use Rattle.vortex_stats.proofs.stats_set.StatsSet.iter.Goals as goal

pub invariant_of-result : goal.invariant_of-result
invariant_of-result c = rw c.as_slice.ensures (all_left c.self.inside.slots c.self.inside.order.items c.self.inside.order.capacity c.self.invariant)

pub returns-clause-few : goal.returns-clause-few
returns-clause-few c = subst (λ es. length es ≤ 9) c.self.view_is (length-distinct (slot_entries c.self.inside.slots c.self.inside.order.items) c.self.invariant.distinct)
