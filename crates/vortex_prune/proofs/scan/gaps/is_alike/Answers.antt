use Rattle.std.proofs.Common.{◌∙◌, sym}
use Rattle.vortex_expr.specs.Trees.TreeEq.{tree_eq_is_exact}
use Rattle.vortex_prune.proofs.scan.gaps.is_alike.Goals as goal

pub returns-then-is_above : goal.returns-then-is_above
returns-then-is_above c held =
    let gap = c.args.gap.now in
    let other = c.args.other.now in
    record {
      above = (tree_eq_is_exact gap.above.operand.now other.above.operand.now).0 (sym c.eq-is_above.ensures.value ∙ c.if-is_above.true);
      below = (tree_eq_is_exact gap.below.operand.now other.below.operand.now).0 (sym c.eq-is_below.ensures.value ∙ held);
      flag = c.are_same.ensures c.if-not-are_same.false;
    }
