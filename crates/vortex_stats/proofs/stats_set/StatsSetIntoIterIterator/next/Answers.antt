use Rattle.std.proofs.Common.{sym, ap, subst, ◌∙◌, length, arith}
use Rattle.vortex_stats.specs.Sets.Slots.{slot_entries, AreLeft}
use Rattle.vortex_stats.proofs.Sets.SlotLemmas.{left_after, left_first}
use Rattle.vortex_stats.proofs.stats_set.StatsSetIntoIterIterator.next.Goals as goal

pub taken-requires-clause-filed : goal.taken-requires-clause-filed
taken-requires-clause-filed c =
    let left = subst (AreLeft c.self.inside.slots) c.in_ok-first.ensures.steps c.self.invariant in left.filed.0

pub invariant_of-self-2 : goal.invariant_of-self-2
invariant_of-self-2 c =
    let left = subst (AreLeft c.self.inside.slots) c.in_ok-first.ensures.steps c.self.invariant in
    rw c.taken.ensures.emptied (left_after c.self.inside.slots c.in_ok-first.first c.next.new.self left)

pub returns-clause-steps : goal.returns-clause-steps
returns-clause-steps c =
    let left = subst (AreLeft c.self.inside.slots) c.in_ok-first.ensures.steps c.self.invariant in
    rw c.taken.ensures.emptied
    (sym c.self.view_is ∙ ap (slot_entries c.self.inside.slots) c.in_ok-first.ensures.steps ∙ left_first c.self.inside.slots c.in_ok-first.first c.next.new.self left c.taken.result c.taken.ensures.taken)

pub returns-clause-goes : goal.returns-clause-goes
returns-clause-goes c =
    let shorter = ap length (returns-clause-steps c) in record { on = λ _. (tt, tt, omega (arith, shorter)); keeps = tt; rests = λ _. tt }
