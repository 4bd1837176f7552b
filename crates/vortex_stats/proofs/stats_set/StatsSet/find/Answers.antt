use Rattle.std.proofs.Common.{sym, ap, ◌∙◌}
use Rattle.vortex_stats.specs.Sets.Entries.{entry_value}
use Rattle.vortex_stats.specs.Sets.Slots.{value_in}
use Rattle.vortex_stats.proofs.Sets.SlotLemmas.{entry_value-slots, slot_read}
use Rattle.vortex_stats.proofs.stats_set.StatsSet.find.Goals as goal

pub returns-in-Some : goal.returns-in-Some
returns-in-Some c =
    let i = c.self.inside in
    let at = slot_read i.slots c.self.invariant.nine c.args.stat c.number.result c.index-self-number.result c.number.ensures c.index-self-number.is in
    let value = entry_value-slots i.slots i.order.items i.order.capacity c.self.invariant c.args.stat c.index-self-number.result at in
    c.as_ref.ensures ∙ sym (sym (ap (entry_value c.args.stat) c.self.view_is) ∙ value ∙ ap value_in (c.index-self-number.is ∙ c.in-Some.is))

pub returns-in-None : goal.returns-in-None
returns-in-None c =
    let i = c.self.inside in
    let at = slot_read i.slots c.self.invariant.nine c.args.stat c.number.result c.index-self-number.result c.number.ensures c.index-self-number.is in
    let value = entry_value-slots i.slots i.order.items i.order.capacity c.self.invariant c.args.stat c.index-self-number.result at in
    sym (sym (ap (entry_value c.args.stat) c.self.view_is) ∙ value ∙ ap value_in (c.index-self-number.is ∙ c.in-None.is))
