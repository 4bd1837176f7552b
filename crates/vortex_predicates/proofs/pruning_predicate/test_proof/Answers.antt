use Rattle.std.proofs.Common.{ap, subst, sym, ◌∙◌}
use Rattle.std.proofs.lemmas.Result.{err_from_is_err_and}
use Rattle.vortex_expr.specs.Trees.Tree.{Place, Tree}
use Rattle.vortex_normal.specs.Strict.{strict}
use Rattle.vortex_predicates.proofs.OpenSides.{if_same}
use Rattle.vortex_predicates.specs.Pruning.{falsifying_causes}
use Rattle.vortex_rewrite.specs.Causes.{IsRefusal}
use Rattle.vortex_rewrite.specs.Rewriting.Own.{own_rules}
use Rattle.vortex_predicates.proofs.pruning_predicate.test_proof.Goals as goal

pub returns-in_err-proof-clause-refusal : goal.returns-in_err-proof-clause-refusal
returns-in_err-proof-clause-refusal g c =
    let own = own_rules (λ b. (g.dyn-1.0.entry b.vtable).1) c.args.rules.now.own.items in
    let q = err_from_is_err_and c.from_residual-in_err-proof.result c.from_residual-in_err-proof.ensures.1 in
    rw (q.1, q.2)
    (subst (λ (e : Tree Place). IsRefusal (falsifying_causes own e) c.in_err-proof.field-0.0) (c.in_ok-form.ensures.form ∙ ap strict (sym (if_same _ _ _ (sym c.in_ok-test.ensures.value ∙ c.in-Some.is))))
    c.in_err-proof.ensures.refusal)
