use Rattle.std.proofs.Common.{◌≡◌, ◌++◌, take}
use Rattle.vortex_rewrite.specs.Rewriting.Own.{own_rules}
use Rattle.vortex_rewrite.specs.Rewriting.Falsifiers.{own_proofs}
use Rattle.vortex_rewrite.specs.Rewriting.Sides.{proof_of}
use Rattle.vortex_rewrite.proofs.rewrite.user_rules.ask_own.Given as goal

-- the proofs of the rules so far are appended
abbrev pub invariant-loop-rule : goal.invariant-loop-rule
invariant-loop-rule g l =
    l.proofs.items ≡ l.initial.proofs.items ++ own_proofs (proof_of l.side) (own_rules (λ b. (g.dyn-1.0.entry b.vtable).1) (take l.rule-index l.rule-items)) l.e
