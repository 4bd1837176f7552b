use Rattle.std.proofs.Common.{◌≡◌, List, rules, false, not, sym, ap, ◌∙◌, is_some}
use Rattle.std.specs.List.{filter}
use Rattle.vortex_stats.specs.Sets.Entries.{has_entry}
use Rattle.vortex_stats.specs.Stat.{stat_eq}
use Rattle.vortex_stats.proofs.Sets.Places.{filtered-from_retain}
use Rattle.vortex_stats.proofs.Sets.SlotLemmas.{slot_read, has_entry-slots, without_entry-none, removed, sound_without}
use Rattle.vortex_stats.proofs.stats_set.StatsSet.clear.Goals as goal

pub returns-then-is_none : goal.returns-then-is_none
returns-then-is_none c =
    let i = c.self.inside in
    let at = slot_read i.slots c.self.invariant.nine c.args.stat c.number-place.result c.index-self-place.result c.number-place.ensures c.index-self-place.is in
    let none : has_entry c.args.stat c.args.self.now ≡ false =
    sym (ap (has_entry c.args.stat) c.self.view_is)
    ∙ has_entry-slots i.slots i.order.items i.order.capacity c.self.invariant c.args.stat c.index-self-place.result at ∙ ap is_some c.index-self-place.is ∙ c.if-is_none.ensures in
    sym (without_entry-none c.args.stat c.args.self.now none)

pub invariant_of-self : goal.invariant_of-self
invariant_of-self c =
    let i = c.self.inside in
    let kept : c.retain.new.self.items ≡ filter (λ u. not (stat_eq u c.args.stat)) i.order.items =
    filtered-from_retain _ (λ u. not (stat_eq u c.args.stat)) _ (λ x b t y r. search rules) _ _ c.retain.ensures.filtered in
    rw (kept, c.retain.ensures.capacity, c.number-place.ensures) (sound_without i.slots c.self.invariant.nine c.args.stat i.order.items i.order.capacity c.self.invariant)

pub returns : goal.returns
returns c =
    let i = c.self.inside in
    let kept : c.retain.new.self.items ≡ filter (λ u. not (stat_eq u c.args.stat)) i.order.items =
    filtered-from_retain _ (λ u. not (stat_eq u c.args.stat)) _ (λ x b t y r. search rules) _ _ c.retain.ensures.filtered in
    rw (kept, c.number-place.ensures, ← c.self.view_is) (removed i.slots c.self.invariant.nine c.args.stat i.order.items)
