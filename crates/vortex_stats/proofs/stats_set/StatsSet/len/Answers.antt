use Rattle.std.proofs.Common.{sym, ap, ◌∙◌, length}
use Rattle.vortex_stats.proofs.Sets.SlotLemmas.{length_slots}
use Rattle.vortex_stats.proofs.stats_set.StatsSet.len.Goals as goal

pub returns-clause-value : goal.returns-clause-value
returns-clause-value c = c.len.ensures.value ∙ sym (length_slots c.self.inside.slots c.self.inside.order.items) ∙ ap length c.self.view_is
