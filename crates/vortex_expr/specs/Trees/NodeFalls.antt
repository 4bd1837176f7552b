-- Each child has fewer nodes than the whole.
use Rattle.std.specs.Prelude.{◌≤◌, max}
use Rattle.std.proofs.Common.{arith}
use Rattle.vortex_base.specs.declared.dtype.DType.{DType}
use Rattle.vortex_expr.specs.declared.bound_expression.Node.{Node}
use Rattle.vortex_expr.specs.declared.bound_expression.Node.TheVariants as node
use Rattle.vortex_expr.specs.declared.bound_expression.BoundExpression.TheDeep.{deep-Node}
use Rattle.vortex_expr.specs.Trees.Tree.{node_count}
use Rattle.vortex_expr.specs.Trees.Node.{tree}

pub depth_le-node_count : (t : DType) (n : Node) → max (deep-Node n) 0 ≤ node_count (tree t n)
depth_le-node_count t (node.Column i) = omega arith
depth_le-node_count t (node.Literal c) = omega arith
depth_le-node_count t (node.Binary o l r) = omega arith
depth_le-node_count t (node.Between o x l u) = omega arith
depth_le-node_count t (node.IsNull x) = omega arith
depth_le-node_count t (node.IsNotNull x) = omega arith
depth_le-node_count t (node.Not x) = omega arith
depth_le-node_count t (node.Like o x p) = omega arith
depth_le-node_count t (node.Stat f x) = omega arith
depth_le-node_count t node.RowCount = omega arith
