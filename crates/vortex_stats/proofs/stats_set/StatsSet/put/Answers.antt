use Rattle.std.proofs.Common.{◌≡◌, [], ◌∷◌, ◌++◌, true, false, ap, ◌∙◌, is_some, arith}
use Rattle.vortex_stats.specs.Sets.Entries.{has_entry}
use Rattle.vortex_stats.specs.Sets.Slots.{slot_entries}
use Rattle.vortex_stats.proofs.Sets.SlotLemmas.{slot_read, has_entry-slots, room, written_in_place, written_last, sound_with}
use Rattle.vortex_stats.proofs.stats_set.StatsSet.put.Goals as goal

pub push_reserved-requires : goal.push_reserved-requires
push_reserved-requires c =
    let i = c.self.inside in
    let at = slot_read i.slots c.self.invariant.nine c.args.stat c.number-place.result c.index-self-place.result c.number-place.ensures c.index-self-place.is in
    let new : has_entry c.args.stat (slot_entries i.slots i.order.items) ≡ false =
    has_entry-slots i.slots i.order.items i.order.capacity c.self.invariant c.args.stat c.index-self-place.result at ∙ ap is_some c.index-self-place.is ∙ c.if-is_none.ensures in
    (omega arith, room i.slots i.order.items i.order.capacity c.self.invariant c.args.stat new)

pub invariant_of-self : goal.invariant_of-self
invariant_of-self c =
    let i = c.self.inside in
    let at = slot_read i.slots c.self.invariant.nine c.args.stat c.number-place.result c.index-self-place.result c.number-place.ensures c.index-self-place.is in
    let new : has_entry c.args.stat (slot_entries i.slots i.order.items) ≡ false =
    has_entry-slots i.slots i.order.items i.order.capacity c.self.invariant c.args.stat c.index-self-place.result at ∙ ap is_some c.index-self-place.is ∙ c.if-is_none.ensures in
    rw (c.push_reserved.ensures.items, c.push_reserved.ensures.capacity, c.number-place.ensures)
    (sound_with i.slots c.self.invariant.nine c.args.stat c.args.value i.order.items i.order.capacity c.self.invariant (i.order.items ++ c.args.stat ∷ [])
    (written_last i.slots c.self.invariant.nine c.args.stat c.args.value i.order.items new))

pub returns-then-is_none : goal.returns-then-is_none
returns-then-is_none c =
    let i = c.self.inside in
    let at = slot_read i.slots c.self.invariant.nine c.args.stat c.number-place.result c.index-self-place.result c.number-place.ensures c.index-self-place.is in
    let new : has_entry c.args.stat (slot_entries i.slots i.order.items) ≡ false =
    has_entry-slots i.slots i.order.items i.order.capacity c.self.invariant c.args.stat c.index-self-place.result at ∙ ap is_some c.index-self-place.is ∙ c.if-is_none.ensures in
    rw (c.push_reserved.ensures.items, c.number-place.ensures, ← c.self.view_is) (written_last i.slots c.self.invariant.nine c.args.stat c.args.value i.order.items new)

pub invariant_of-self-2 : goal.invariant_of-self-2
invariant_of-self-2 c =
    let i = c.self.inside in
    let at = slot_read i.slots c.self.invariant.nine c.args.stat c.number-place.result c.index-self-place.result c.number-place.ensures c.index-self-place.is in
    let present : has_entry c.args.stat (slot_entries i.slots i.order.items) ≡ true =
    has_entry-slots i.slots i.order.items i.order.capacity c.self.invariant c.args.stat c.index-self-place.result at ∙ ap is_some c.index-self-place.is ∙ c.if-is_none.ensures in
    rw c.number-place.ensures
    (sound_with i.slots c.self.invariant.nine c.args.stat c.args.value i.order.items i.order.capacity c.self.invariant i.order.items
    (written_in_place i.slots c.self.invariant.nine c.args.stat c.args.value i.order.items c.self.invariant.distinct present))

pub returns : goal.returns
returns c =
    let i = c.self.inside in
    let at = slot_read i.slots c.self.invariant.nine c.args.stat c.number-place.result c.index-self-place.result c.number-place.ensures c.index-self-place.is in
    let present : has_entry c.args.stat (slot_entries i.slots i.order.items) ≡ true =
    has_entry-slots i.slots i.order.items i.order.capacity c.self.invariant c.args.stat c.index-self-place.result at ∙ ap is_some c.index-self-place.is ∙ c.if-is_none.ensures in
    rw (c.number-place.ensures, ← c.self.view_is) (written_in_place i.slots c.self.invariant.nine c.args.stat c.args.value i.order.items c.self.invariant.distinct present)
