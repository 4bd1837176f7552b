use Rattle.std.proofs.Common.{ap, ◌∙◌}
use Rattle.vortex_text.proofs.StoreLemmas.{chunk}
use Rattle.vortex_text.proofs.StoreSteps.{ended_is_store, ended_view}
use Rattle.vortex_text.specs.Stores.{ended_all, last_row}
use Rattle.vortex_text.proofs.store.Store.end_part.Goals as goal

pub invariant_of-self-2 : goal.invariant_of-self-2
invariant_of-self-2 c =
    let s = c.self.inside in
    ended_is_store (chunk s.scope s.columns.items) s.log c.end_zone.new.self s.from c.last_row-last.result s.is_open c.self.invariant (c.last_row-last.ensures.row ∙ ap (last_row s.from) c.deref.ensures.value) c.in_ok-end_zone.ensures.ended

pub returns-clause-ended : goal.returns-clause-ended
returns-clause-ended c =
    let s = c.self.inside in
    ended_view (chunk s.scope s.columns.items) s.log c.end_zone.new.self s.from c.last_row-last.result s.is_open c.self.invariant c.if-not-self.false (c.last_row-last.ensures.row ∙ ap (last_row s.from) c.deref.ensures.value) c.in_ok-end_zone.ensures.ended ∙ ap ended_all c.self.view_is
