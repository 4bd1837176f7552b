-- The tree that an expression over named columns stands for.
use Rattle.std.specs.Prelude.{string_bytes}
use Rattle.vortex_expr.specs.declared.expression.NamedNode.{NamedNode}
use Rattle.vortex_expr.specs.declared.expression.NamedNode.TheVariants as node
use Rattle.vortex_expr.specs.Trees.Tree.{Tree, column, literal, binary, between, is_null, is_not_null, not, like, stat, row_count}
use Rattle.vortex_expr.specs.Meanings.Binding.{Name}

abbrev pub named_tree : NamedNode → Tree Name
named_tree (node.Column name) = column (string_bytes name)
named_tree (node.Literal c) = literal c
named_tree (node.Binary o l r) = binary o l r
named_tree (node.Between o x l u) = between o x l u
named_tree (node.IsNull x) = is_null x
named_tree (node.IsNotNull x) = is_not_null x
named_tree (node.Not x) = not x
named_tree (node.Like o x p) = like o x p
named_tree (node.Stat f x) = stat f x
named_tree node.RowCount = row_count
