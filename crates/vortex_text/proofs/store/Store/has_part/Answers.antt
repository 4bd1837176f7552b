use Rattle.std.proofs.Common.{ap, nat_lt, ◌∙◌}
use Rattle.vortex_text.proofs.StoreLemmas.{chunk}
use Rattle.vortex_text.proofs.StoreSteps.{some_ended}
use Rattle.vortex_text.specs.Lines.{has_part}
use Rattle.vortex_text.specs.Stores.{StoreData, all_parts}
use Rattle.vortex_text.proofs.store.Store.has_part.Goals as goal

pub returns-else-self : goal.returns-else-self
returns-else-self c =
    let s = c.self.inside in
    ap (nat_lt 0) c.len.ensures ∙ some_ended (chunk s.scope s.columns.items) s.log s.from s.is_open c.if-self.false ∙ ap (λ (x : StoreData). has_part (all_parts x)) c.self.view_is
