-- The tree that one level and its children make.
use Rattle.vortex_expr.specs.declared.bound_expression.parts.Parts.{Parts}
use Rattle.vortex_expr.specs.declared.bound_expression.parts.Parts.TheVariants as parts
use Rattle.vortex_expr.specs.Trees.Tree.{Tree, Place, column, literal, binary, between, is_null, is_not_null, not, like, stat, row_count}

abbrev pub whole : Parts → Tree Place
whole (parts.Column i t) = column (record { index = i; dtype = t })
whole (parts.Literal c) = literal c.now
whole (parts.Binary o l r) = binary o l.now r.now
whole (parts.Between o x l u) = between o x.now l.now u.now
whole (parts.IsNull x) = is_null x.now
whole (parts.IsNotNull x) = is_not_null x.now
whole (parts.Not x) = not x.now
whole (parts.Like o x p) = like o x.now p.now
whole (parts.Stat f x) = stat f x.now
whole parts.RowCount = row_count
