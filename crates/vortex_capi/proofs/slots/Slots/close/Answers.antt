use Rattle.std.proofs.Common.{ℕ, ◌++◌, [], ◌∷◌, refl, ap, ◌∙◌}
use Rattle.vortex_capi.proofs.SlotLemmas.{slots_closed}
use Rattle.vortex_capi.proofs.slots.Slots.close.Goals as goal

pub returns : goal.returns
returns c = λ slots bytes opened.
    slots_closed c.args.self.now (record { known = c.push-2.new.self; ends = c.push.new.self; values = c.args.self.now.values }) slots c.args.known bytes opened refl c.in_ok-push-2.ensures.items
    (c.in_ok-push.ensures.items ∙ ap (λ (n : ℕ). c.args.self.now.ends.items ++ n ∷ []) c.heap_len-end.ensures)
