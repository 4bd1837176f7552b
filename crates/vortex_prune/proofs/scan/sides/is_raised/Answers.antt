use Rattle.std.proofs.Common.{◌≡◌, ◌∙◌, ap, not, rules, sym, true}
use Rattle.std.specs.Ordering.{is_gt}
use Rattle.vortex_base.specs.Data.ArrayData.{value_of}
use Rattle.vortex_expr.specs.Trees.TreeEq.{tree_eq_is_exact}
use Rattle.vortex_rewrite.proofs.Soundness.ValueTests.{value_le}
use Rattle.vortex_prune.proofs.Scanning.GapOrder.{falls_so}
use Rattle.vortex_prune.specs.Scanning.Gaps.{is_falling}
use Rattle.vortex_prune.proofs.scan.sides.is_raised.Goals as goal

pub returns-clause-covers : goal.returns-clause-covers
returns-clause-covers c held =
    let same : c.args.side.operator ≡ c.args.next.operator = search rules in
    let rises : is_falling c.args.side.operator ≡ true = search rules in
    let le : value_le (value_of c.args.side.value) (value_of c.args.next.value) ≡ true =
    ap (λ o. not (is_gt o)) (sym c.order.ensures) ∙ ap not (sym c.is_gt.ensures ∙ c.if-is_gt.false) in
    (sym ((tree_eq_is_exact c.args.side.operand.now c.args.next.operand.now).0 (sym c.eq.ensures.value ∙ held)), falls_so c.args.side c.args.next same rises le)
