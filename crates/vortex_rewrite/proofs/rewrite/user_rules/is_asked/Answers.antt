use Rattle.std.proofs.Common.{sym, ◌∙◌}
use Rattle.vortex_rewrite.proofs.Rewriting.RuleBoxes.{asked_in, unasked_more}
use Rattle.vortex_rewrite.proofs.rewrite.user_rules.is_asked.Goals as goal

pub loop-rule-preserved : goal.loop-rule-preserved
loop-rule-preserved g c =
    unasked_more (λ b. (g.dyn-1.0.entry b.vtable).1) c.args.e.now _ _ _ c.loop-rule-test.true c.rule-item.is c.loop-rule.invariant (sym c.is_for.ensures ∙ c.if-is_for.false)

pub returns-then-is_for : goal.returns-then-is_for
returns-then-is_for g c =
    asked_in (λ b. (g.dyn-1.0.entry b.vtable).1) c.args.e.now _ _ _ _ c.loop-rule-test.true c.rule-item.is c.deref-rule-items.ensures.value (sym c.is_for.ensures ∙ c.if-is_for.true)
