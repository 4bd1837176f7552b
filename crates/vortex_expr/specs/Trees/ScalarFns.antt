-- The names of the functions that nodes apply.
use Rattle.std.specs.Prelude.{ℕ, List, codes}
use Rattle.vortex_expr.specs.declared.scalar_fn.ScalarFnId.{ScalarFnId}
use Rattle.vortex_expr.specs.declared.scalar_fn.ScalarFnId.TheVariants as function

abbrev pub name_of : ScalarFnId → List ℕ
name_of function.Literal = codes "literal"
name_of function.Binary = codes "binary"
name_of function.Between = codes "between"
name_of function.IsNull = codes "is_null"
name_of function.IsNotNull = codes "is_not_null"
name_of function.Not = codes "not"
name_of function.Like = codes "like"
name_of function.Stat = codes "vortex.stat"
name_of function.RowCount = codes "row_count"
