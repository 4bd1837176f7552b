use Rattle.std.proofs.Common.{ap, ◌∙◌, option_to_list, [], ◌∷◌}
use Rattle.std.proofs.lemmas.Result.{err_from_is_err_and}
use Rattle.vortex_rewrite.proofs.Rewriting.RuleBoxes.{own_more, refusal_in}
use Rattle.vortex_rewrite.specs.Rewriting.Sides.{proof_of}
use Rattle.vortex_rewrite.proofs.rewrite.user_rules.ask_own.Goals as goal

pub returns-in_err-proof-clause-refusal : goal.returns-in_err-proof-clause-refusal
returns-in_err-proof-clause-refusal g c =
    let p = err_from_is_err_and c.from_residual.result c.from_residual.ensures.1 in
    rw (p.1, p.2)
    (refusal_in (λ b. (g.dyn-1.0.entry b.vtable).1) (proof_of c.args.side) (c.args.e.now ∷ []) _ _ _ _ _ c.loop-rule-test.true c.rule-item.is c.deref-rule-items.ensures.value c.in_err-proof.ensures)

pub loop-rule-preserved : goal.loop-rule-preserved
loop-rule-preserved g c =
    c.in_ok-push_some.ensures ∙
    own_more (λ b. (g.dyn-1.0.entry b.vtable).1) (proof_of c.args.side) _ _ _ _ _ _ _ c.loop-rule-test.true c.rule-item.is c.loop-rule.invariant (ap option_to_list c.in_ok-proof.ensures)
