use Rattle.std.proofs.Common.{◌≡◌, ap, ◌∙◌}
use Rattle.std.proofs.lemmas.Result.{err_from_is_err_and}
use Rattle.vortex_expr.specs.Trees.Parts.{whole}
use Rattle.vortex_expr.specs.Trees.Tree.{binary}
use Rattle.vortex_expr.specs.declared.scalar_fn.Operator.{Operator}
use Rattle.vortex_expr.specs.declared.scalar_fn.Operator.TheVariants.{And, Or}
use Rattle.vortex_rewrite.proofs.Rewriting.AskedNodes.{at_and_left, at_and_right, at_or_left, at_or_right}
use Rattle.vortex_rewrite.proofs.Rewriting.CauseLemmas.{refusal-more}
use Rattle.vortex_rewrite.specs.Rewriting.Lawful.{OwnRule}
use Rattle.vortex_rewrite.specs.Rewriting.Own.{own_rules}
use Rattle.vortex_predicates.proofs.equal_bounds.+leaf_proof.Goals as goal

pub returns-in_err-left-in-Binary-And-default-default-clause-refusal : goal.returns-in_err-left-in-Binary-And-default-default-clause-refusal
returns-in_err-left-in-Binary-And-default-default-clause-refusal g t c =
    let own = own_rules (λ b. (g.dyn-1.0.entry b.vtable).1) c.args.rules.now.own.items in
    let l = c.in-Binary-And-default-default.left.now in
    let r = c.in-Binary-And-default-default.right.now in
    let is : c.args.e.now ≡ binary And l r = c.parts.ensures ∙ ap whole c.in-Binary-And-default-default.is ∙ ap (λ (o : Operator). binary o l r) c.in-Binary-And-default-default.field-0-is in
    let q = err_from_is_err_and c.from_residual.result c.from_residual.ensures.1 in
    rw (q.1, q.2) (refusal-more _ _ _ (at_and_left (λ (rule : OwnRule). rule.falsifier) own c.args.e.now l r is) c.in_err-left-in-Binary-And-default-default.ensures.refusal)

pub returns-in_err-right-in-Binary-And-default-default-clause-refusal : goal.returns-in_err-right-in-Binary-And-default-default-clause-refusal
returns-in_err-right-in-Binary-And-default-default-clause-refusal g t c =
    let own = own_rules (λ b. (g.dyn-1.0.entry b.vtable).1) c.args.rules.now.own.items in
    let l = c.in-Binary-And-default-default.left.now in
    let r = c.in-Binary-And-default-default.right.now in
    let is : c.args.e.now ≡ binary And l r = c.parts.ensures ∙ ap whole c.in-Binary-And-default-default.is ∙ ap (λ (o : Operator). binary o l r) c.in-Binary-And-default-default.field-0-is in
    let q = err_from_is_err_and c.from_residual-in_err-right-in-Binary-And-default-default.result c.from_residual-in_err-right-in-Binary-And-default-default.ensures.1 in
    rw (q.1, q.2) (refusal-more _ _ _ (at_and_right (λ (rule : OwnRule). rule.falsifier) own c.args.e.now l r is) c.in_err-right-in-Binary-And-default-default.ensures.refusal)

pub returns-in_err-left-in-Binary-Or-default-default-clause-refusal : goal.returns-in_err-left-in-Binary-Or-default-default-clause-refusal
returns-in_err-left-in-Binary-Or-default-default-clause-refusal g t c =
    let own = own_rules (λ b. (g.dyn-1.0.entry b.vtable).1) c.args.rules.now.own.items in
    let l = c.in-Binary-Or-default-default.left.now in
    let r = c.in-Binary-Or-default-default.right.now in
    let is : c.args.e.now ≡ binary Or l r = c.parts.ensures ∙ ap whole c.in-Binary-Or-default-default.is ∙ ap (λ (o : Operator). binary o l r) c.in-Binary-Or-default-default.field-0-is in
    let q = err_from_is_err_and c.from_residual-in_err-left-in-Binary-Or-default-default.result c.from_residual-in_err-left-in-Binary-Or-default-default.ensures.1 in
    rw (q.1, q.2) (refusal-more _ _ _ (at_or_left (λ (rule : OwnRule). rule.falsifier) own c.args.e.now l r is) c.in_err-left-in-Binary-Or-default-default.ensures.refusal)

pub returns-in_err-right-in-Binary-Or-default-default-clause-refusal : goal.returns-in_err-right-in-Binary-Or-default-default-clause-refusal
returns-in_err-right-in-Binary-Or-default-default-clause-refusal g t c =
    let own = own_rules (λ b. (g.dyn-1.0.entry b.vtable).1) c.args.rules.now.own.items in
    let l = c.in-Binary-Or-default-default.left.now in
    let r = c.in-Binary-Or-default-default.right.now in
    let is : c.args.e.now ≡ binary Or l r = c.parts.ensures ∙ ap whole c.in-Binary-Or-default-default.is ∙ ap (λ (o : Operator). binary o l r) c.in-Binary-Or-default-default.field-0-is in
    let q = err_from_is_err_and c.from_residual-in_err-right-in-Binary-Or-default-default.result c.from_residual-in_err-right-in-Binary-Or-default-default.ensures.1 in
    rw (q.1, q.2) (refusal-more _ _ _ (at_or_right (λ (rule : OwnRule). rule.falsifier) own c.args.e.now l r is) c.in_err-right-in-Binary-Or-default-default.ensures.refusal)
