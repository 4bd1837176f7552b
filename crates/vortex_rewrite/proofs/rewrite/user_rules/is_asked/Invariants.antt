use Rattle.std.proofs.Common.{◌≡◌, false, take}
use Rattle.vortex_rewrite.specs.Rewriting.Falsifiers.{is_asked}
use Rattle.vortex_rewrite.specs.Rewriting.Own.{own_rules}
use Rattle.vortex_rewrite.proofs.rewrite.user_rules.is_asked.Given as goal

-- none of the rules so far is asked
abbrev pub invariant-loop-rule : goal.invariant-loop-rule
invariant-loop-rule g l = is_asked (own_rules (λ b. (g.dyn-1.0.entry b.vtable).1) (take l.rule-index l.rule-items)) l.e ≡ false
