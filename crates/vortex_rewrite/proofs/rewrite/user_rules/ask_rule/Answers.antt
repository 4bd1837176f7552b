use Rattle.std.proofs.Common.{◌≡◌, false, Option, Some, sym, subst, ◌∙◌}
use Rattle.std.specs.Prelude.{IsSomeAnd}
use Rattle.vortex_expr.specs.Trees.Tree.{Place, Tree}
use Rattle.vortex_rewrite.proofs.Rewriting.AskedNodes.{the_one}
use Rattle.vortex_rewrite.specs.Rewriting.Own.{own_rule}
use Rattle.vortex_rewrite.specs.Rewriting.Predicates.{is_predicate}
use Rattle.vortex_rewrite.proofs.rewrite.user_rules.ask_rule.Goals as goal

-- the proof that is named isn't of type Bool
named_other : (o : Option (Tree Place)) (e : Tree Place) → Some e ≡ o → is_predicate e ≡ false → IsSomeAnd o (λ x. is_predicate x ≡ false)
named_other o e h k = subst (λ p. IsSomeAnd p (λ x. is_predicate x ≡ false)) h k

pub returns-in-None : goal.returns-in-None
returns-in-None g c =
    let own = own_rule (λ b. (g.dyn-1.0.entry b.vtable).1) c.args.rule.now in
    let named = rw c.in-Ok-Some.field-0-is at c.in-Ok-Some.ensures in
    (c.args.e.now, own, the_one c.args.e.now, the_one own, sym c.is_for.ensures ∙ c.if-not-is_for.false, named_other _ c.in-Ok-Some.proof named c.in-None.ensures)

pub returns-in-Err-Own : goal.returns-in-Err-Own
returns-in-Err-Own g c =
    let own = own_rule (λ b. (g.dyn-1.0.entry b.vtable).1) c.args.rule.now in
    (c.args.e.now, own, the_one c.args.e.now, the_one own, sym c.is_for.ensures ∙ c.if-not-is_for.false, rw c.in-Err-Own.field-0-is at c.in-Err-Own.ensures)
