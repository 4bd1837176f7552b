-- Worked rows of expressions over columns: which can be read on each row, with one operand at each place of each node.
use Rattle.std.proofs.Common.{refl}
use Rattle.std.specs.Prelude.{◌≡◌, Bool, true, false, List, [], ◌∷◌, map}
use Rattle.vortex_base.specs.declared.aggregate.AggregateFnRef.TheVariants.{Max}
use Rattle.vortex_base.specs.declared.dtype.DType.{DType}
use Rattle.vortex_base.specs.declared.dtype.DType.TheVariants as dtype
use Rattle.vortex_base.specs.declared.types.Nullability.TheVariants.{NonNullable, Nullable}
use Rattle.vortex_base.specs.Data.Columns.{ColumnData}
use Rattle.vortex_base.specs.Worked.Examples.{i32_or_null, i32_type}
use Rattle.vortex_expr.specs.Patterns.Like.{plain}
use Rattle.vortex_expr.specs.Trees.Tree.{Tree, Place, column, binary, between, is_null, is_not_null, not, like, stat, row_count}
use Rattle.vortex_expr.specs.Worked.ExpressionExamples.{closed_ends, int}
use Rattle.vortex_expr.specs.declared.scalar_fn.Operator.TheVariants.{And, Eq, Or}
use Rattle.vortex_rewrite.specs.Facts.{is_over, suits}

abbrev text_type : DType
text_type = dtype.Utf8 NonNullable

abbrev of_type : DType → ColumnData
of_type t = record { dtype = t; values = []; size = 0 }

-- numbers, and texts behind them
abbrev columns : List ColumnData
columns = of_type i32_type ∷ of_type text_type ∷ []

abbrev over : Tree Place → Bool
over e = is_over e columns

abbrev number : Tree Place
number = column (record { index = 0; dtype = i32_type })

abbrev text : Tree Place
text = column (record { index = 1; dtype = text_type })

-- what isn't among the columns, and what isn't known of a row
abbrev unknown : List (Tree Place)
unknown = column (record { index = 2; dtype = i32_type }) ∷ column (record { index = 0; dtype = text_type }) ∷ column (record { index = 1; dtype = i32_type }) ∷ stat Max number ∷ []

leaves : map over (number ∷ text ∷ column (record { index = 0; dtype = i32_or_null }) ∷ column (record { index = 1; dtype = dtype.Utf8 Nullable }) ∷ int 5 ∷ row_count ∷ [])
    ≡ true ∷ true ∷ true ∷ true ∷ true ∷ true ∷ []
leaves = refl

unknown_leaves : map over unknown ≡ false ∷ false ∷ false ∷ false ∷ []
unknown_leaves = refl

none_of_no_columns : map (λ e. is_over e []) (number ∷ int 5 ∷ row_count ∷ []) ≡ false ∷ true ∷ true ∷ []
none_of_no_columns = refl

-- a placeholder suits the columns that its input does, and is not over them
placeholder_row : suits (stat Max number) columns ∷ over (stat Max number) ∷ suits (stat Max (column (record { index = 2; dtype = i32_type }))) columns ∷ [] ≡ true ∷ false ∷ false ∷ []
placeholder_row = refl

-- every node over what is known, and with each of the unknown at each place
abbrev holding : Tree Place → List (Tree Place)
holding e =
    binary Eq e number ∷ binary Eq number e ∷ binary And e number ∷ binary And number e ∷ binary Or e number ∷ binary Or number e
    ∷ between closed_ends e number number ∷ between closed_ends number e number ∷ between closed_ends number number e
    ∷ is_null e ∷ is_not_null e ∷ not e ∷ like plain e text ∷ like plain text e ∷ []

abbrev all_over : List Bool
all_over = true ∷ true ∷ true ∷ true ∷ true ∷ true ∷ true ∷ true ∷ true ∷ true ∷ true ∷ true ∷ true ∷ true ∷ []

abbrev none_over : List Bool
none_over = false ∷ false ∷ false ∷ false ∷ false ∷ false ∷ false ∷ false ∷ false ∷ false ∷ false ∷ false ∷ false ∷ false ∷ []

known_places : map (λ e. map over (holding e)) (number ∷ text ∷ int 5 ∷ row_count ∷ []) ≡ all_over ∷ all_over ∷ all_over ∷ all_over ∷ []
known_places = refl

unknown_places : map (λ e. map over (holding e)) unknown ≡ none_over ∷ none_over ∷ none_over ∷ none_over ∷ []
unknown_places = refl
