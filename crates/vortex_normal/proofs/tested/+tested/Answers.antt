use Rattle.std.proofs.Common.{◌≡◌, None, Some, ap, subst, sym, ◌∙◌}
use Rattle.vortex_expr.specs.Trees.Tree.{Place, Tree, binary}
use Rattle.vortex_normal.specs.Intervals.{swapped}
use Rattle.vortex_normal.specs.Tested.{tested, wanted_beside}
use Rattle.vortex_normal.proofs.TestedTold.{left_tested, right_tested}
use Rattle.vortex_rewrite.specs.Answers.{Makes}
use Rattle.vortex_normal.proofs.tested.+tested.Goals as goal

pub tested-returns-in-Some : goal.tested-returns-in-Some
tested-returns-in-Some t c =
    let k = c.in-Binary in
    let l = k.left.now in
    let r = k.right.now in
    let is : c.args.e.now ≡ binary k.operator l r = cc k.ensures in
    let beside : wanted_beside k.operator l r ≡ Some c.in-Some.truth = sym c.wanted_beside.ensures.wanted ∙ c.in-Some.is in
    subst (λ (e : Tree Place). Makes e c.tested-in-Some.result)
    (sym
    (ap (tested c.args.levels c.args.wanted c.args.with_null) is
    ∙ left_tested c.args.levels c.args.wanted c.args.with_null k.operator l r c.in-Some.truth beside
    ∙ ap (λ v. tested c.args.levels v c.args.with_null l) (sym c.is_wanted.ensures)))
    c.tested-in-Some.ensures

pub tested-returns-in-Some-wanted_beside : goal.tested-returns-in-Some-wanted_beside
tested-returns-in-Some-wanted_beside t c =
    let k = c.in-Binary in
    let l = k.left.now in
    let r = k.right.now in
    let is : c.args.e.now ≡ binary k.operator l r = cc k.ensures in
    let none : wanted_beside k.operator l r ≡ None = sym c.wanted_beside.ensures.wanted ∙ c.in-None.is in
    let beside : wanted_beside (swapped k.operator) r l ≡ Some c.in-Some-wanted_beside.truth =
    ap (λ o. wanted_beside o r l) (sym c.swapped.ensures) ∙ sym c.wanted_beside-in-None.ensures.wanted ∙ c.in-Some-wanted_beside.is in
    subst (λ (e : Tree Place). Makes e c.tested-in-Some-wanted_beside.result)
    (sym
    (ap (tested c.args.levels c.args.wanted c.args.with_null) is
    ∙ right_tested c.args.levels c.args.wanted c.args.with_null k.operator l r c.in-Some-wanted_beside.truth none beside
    ∙ ap (λ v. tested c.args.levels v c.args.with_null r) (sym c.is_wanted-in-Some-wanted_beside.ensures)))
    c.tested-in-Some-wanted_beside.ensures
