-- The tree that the fields of a typed expression stand for.
use Rattle.vortex_base.specs.declared.dtype.DType.{DType}
use Rattle.vortex_expr.specs.declared.bound_expression.Node.{Node}
use Rattle.vortex_expr.specs.declared.bound_expression.Node.TheVariants as node
use Rattle.vortex_expr.specs.Trees.Tree.{Tree, Place, column, literal, binary, between, is_null, is_not_null, not, like, stat, row_count}

abbrev pub tree : DType → Node → Tree Place
tree t (node.Column i) = column (record { index = i; dtype = t })
tree t (node.Literal c) = literal c
tree t (node.Binary o l r) = binary o l r
tree t (node.Between o x l u) = between o x l u
tree t (node.IsNull x) = is_null x
tree t (node.IsNotNull x) = is_not_null x
tree t (node.Not x) = not x
tree t (node.Like o x p) = like o x p
tree t (node.Stat f x) = stat f x
tree t node.RowCount = row_count
