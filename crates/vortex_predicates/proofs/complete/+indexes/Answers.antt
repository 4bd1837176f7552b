use Rattle.std.proofs.Common.{Bool, ap, subst, sym, ◌∙◌, ◌++◌}
use Rattle.std.proofs.lemmas.Result.{IfOk-weaker}
use Rattle.std.specs.Prelude.{IfOk}
use Rattle.vortex_expr.specs.Trees.Tree.{Place, Tree, binary}
use Rattle.vortex_predicates.proofs.Indexes.{and_is_apart, or_is_apart}
use Rattle.vortex_predicates.specs.Complete.{AreIndexesIf}
use Rattle.vortex_rewrite.specs.Rewriting.ReadOnce.{columns_of, has_disjoint_ands}
use Rattle.vortex_predicates.proofs.complete.+indexes.Goals as goal

pub returns-in_ok-right-in-Binary-And-default-default : goal.returns-in_ok-right-in-Binary-And-default-default
returns-in_ok-right-in-Binary-And-default-default t c =
    let x = c.in-Binary-And-default-default in
    let l = x.left.now in
    let r = x.right.now in
    subst (λ (e : Tree Place). IfOk c.apart.result (AreIndexesIf (has_disjoint_ands e) (columns_of e))) (sym (x.ensures ∙ ap (λ o. binary o l r) x.field-0-is))
    (IfOk-weaker c.apart.result _ _
    (λ found f. subst (λ (b : Bool). AreIndexesIf b (columns_of l ++ columns_of r) found) (sym (and_is_apart l r)) (f _ _ _ _ c.in_ok-left-in-Binary-And-default-default.ensures c.in_ok-right-in-Binary-And-default-default.ensures))
    c.apart.ensures)

pub returns-in_ok-right-in-Binary-Or-default-default : goal.returns-in_ok-right-in-Binary-Or-default-default
returns-in_ok-right-in-Binary-Or-default-default t c =
    let x = c.in-Binary-Or-default-default in
    let l = x.left.now in
    let r = x.right.now in
    subst (λ (e : Tree Place). IfOk c.both.result (AreIndexesIf (has_disjoint_ands e) (columns_of e))) (sym (x.ensures ∙ ap (λ o. binary o l r) x.field-0-is))
    (IfOk-weaker c.both.result _ _
    (λ found f. subst (λ (b : Bool). AreIndexesIf b (columns_of l ++ columns_of r) found) (sym (or_is_apart l r)) (f _ _ _ _ c.in_ok-left-in-Binary-Or-default-default.ensures c.in_ok-right-in-Binary-Or-default-default.ensures))
    c.both.ensures)
