-- Each child of an expression over named columns has fewer nodes than the whole.
use Rattle.std.specs.Prelude.{◌≤◌, max}
use Rattle.std.proofs.Common.{arith}
use Rattle.vortex_expr.specs.declared.expression.NamedNode.{NamedNode}
use Rattle.vortex_expr.specs.declared.expression.NamedNode.TheVariants as node
use Rattle.vortex_expr.specs.declared.expression.Expression.TheDeep.{deep-NamedNode}
use Rattle.vortex_expr.specs.Trees.Tree.{node_count}
use Rattle.vortex_expr.specs.Trees.NamedNode.{named_tree}

pub depth_le-named_node_count : (n : NamedNode) → max (deep-NamedNode n) 0 ≤ node_count (named_tree n)
depth_le-named_node_count (node.Column name) = omega arith
depth_le-named_node_count (node.Literal c) = omega arith
depth_le-named_node_count (node.Binary o l r) = omega arith
depth_le-named_node_count (node.Between o x l u) = omega arith
depth_le-named_node_count (node.IsNull x) = omega arith
depth_le-named_node_count (node.IsNotNull x) = omega arith
depth_le-named_node_count (node.Not x) = omega arith
depth_le-named_node_count (node.Like o x p) = omega arith
depth_le-named_node_count (node.Stat f x) = omega arith
depth_le-named_node_count node.RowCount = omega arith
