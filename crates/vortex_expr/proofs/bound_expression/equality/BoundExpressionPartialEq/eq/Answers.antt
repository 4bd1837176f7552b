use Rattle.vortex_expr.specs.Trees.TreeEq.{tree_eq_is_exact}
use Rattle.vortex_expr.proofs.bound_expression.equality.BoundExpressionPartialEq.eq.Goals as goal

pub returns-clause-same : goal.returns-clause-same
returns-clause-same c = rw c.is_same.ensures (tree_eq_is_exact _ _)
