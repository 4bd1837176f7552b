-- Comparisons and patterns that an operand makes null in every row.
use Rattle.std.specs.Prelude.{true, Option, Some, None, is_none, if◌then◌else◌}
use Rattle.vortex_base.specs.declared.aggregate.AggregateFnRef.TheVariants.{AllNull}
use Rattle.vortex_expr.specs.declared.scalar_fn.Operator.TheVariants.{Or}
use Rattle.vortex_expr.specs.Trees.Tree.{Tree, Place, literal, binary, like, stat}
use Rattle.vortex_rewrite.specs.Rewriting.Predicates.{is_connective}
use Rattle.vortex_rewrite.specs.Rewriting.Falsifiers.{bool_literal, either_of}

-- that the operand is null in every row; of a literal it is known
abbrev pub null_proof : Tree Place → Option (Tree Place)
null_proof (literal c) = if is_none c.value then Some (bool_literal true) else None
null_proof x = Some (stat AllNull x)

-- that one of two operands is
abbrev pub either_null : (x y : Tree Place) → Option (Tree Place)
either_null x y = either_of (binary Or) (null_proof x) (null_proof y)

-- that an operand of a comparison or of a LIKE is; the halves of a BETWEEN are comparisons
abbrev pub null_operands : Tree Place → Option (Tree Place)
null_operands (binary o l r) = if is_connective o then None else either_null l r
null_operands (like o x p) = either_null x p
null_operands p = None
