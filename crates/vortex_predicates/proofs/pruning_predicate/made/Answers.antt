use Rattle.std.proofs.Common.{subst, sym}
use Rattle.std.proofs.lemmas.Bool.{true_from_ne_false}
use Rattle.std.proofs.lemmas.Result.{err_from_is_err_and}
use Rattle.vortex_predicates.proofs.RightProofs.{right_of}
use Rattle.vortex_expr.specs.Trees.Tree.{Place, Tree}
use Rattle.vortex_predicates.specs.NullBoxes.{HasTestForms}
use Rattle.vortex_predicates.specs.Pruning.{skip_causes, whole_causes}
use Rattle.vortex_rewrite.proofs.Rewriting.CauseLemmas.{either-right}
use Rattle.vortex_rewrite.specs.Rewriting.Own.{own_rules}
use Rattle.vortex_rewrite.specs.Rewriting.Predicates.{is_predicate}
use Rattle.vortex_predicates.proofs.pruning_predicate.made.Goals as goal

pub invariant_of-result : goal.invariant_of-result
invariant_of-result g c =
    let h = c.in_ok-normal.ensures in
    right_of (own_rules (λ b. (g.dyn-1.0.entry b.vtable).1) c.args.rules.now.own.items) c.args.levels c.args.predicate.now c.in_ok-predicate.predicate _ c.in_ok-falsifier.falsifier c.in_ok-satisfier.satisfier
    c.in_ok-predicate.ensures h.form (record { predicate = h.truth; same = h.same; columns = h.columns; plain = h.plain })
    (true_from_ne_false (is_predicate c.args.predicate.now) (λ no. let k = h.not_predicate no in cc)) c.requires c.in_ok-falsifier.ensures.value c.in_ok-satisfier.ensures.value c.in_ok-falsifier.ensures.form c.in_ok-satisfier.ensures.form

pub returns-clause-right : goal.returns-clause-right
returns-clause-right g c =
    let h = c.in_ok-normal.ensures in
    right_of (own_rules (λ b. (g.dyn-1.0.entry b.vtable).1) c.args.rules.now.own.items) c.args.levels c.args.predicate.now c.in_ok-predicate.predicate _ c.in_ok-falsifier.falsifier c.in_ok-satisfier.satisfier
    c.in_ok-predicate.ensures h.form (record { predicate = h.truth; same = h.same; columns = h.columns; plain = h.plain })
    (true_from_ne_false (is_predicate c.args.predicate.now) (λ no. let k = h.not_predicate no in cc)) c.requires c.in_ok-falsifier.ensures.value c.in_ok-satisfier.ensures.value c.in_ok-falsifier.ensures.form c.in_ok-satisfier.ensures.form

pub returns-clause-forms : goal.returns-clause-forms
returns-clause-forms g c =
    subst (λ (e : Tree Place). HasTestForms c.args.levels e) (sym c.in_ok-predicate.ensures) (record { true_form = c.in_ok-falsifier.ensures.form; untrue_form = c.in_ok-satisfier.ensures.form })

pub returns-in_err-satisfier-clause-refusal : goal.returns-in_err-satisfier-clause-refusal
returns-in_err-satisfier-clause-refusal g c = λ predicate.
    let own = own_rules (λ b. (g.dyn-1.0.entry b.vtable).1) c.args.rules.now.own.items in
    let p = c.args.predicate.now in
    let q = err_from_is_err_and c.from_residual-in_err-satisfier.result c.from_residual-in_err-satisfier.ensures.1 in
    rw (q.1, q.2) (either-right (skip_causes own p) (whole_causes own p) c.in_err-satisfier.field-0.0 c.in_err-satisfier.ensures.refusal)
