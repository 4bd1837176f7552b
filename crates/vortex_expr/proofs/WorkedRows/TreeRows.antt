-- Worked rows of what a tree holds, with one subtree at each place of each node.
use Rattle.std.proofs.Common.{refl}
use Rattle.std.specs.Prelude.{◌≡◌, Bool, true, false, List, [], ◌∷◌, Some, None, codes, map, length, not as not_b}
use Rattle.vortex_expr.specs.declared.scalar_fn.Operator.TheVariants as operator
use Rattle.vortex_base.specs.declared.aggregate.AggregateFnRef.TheVariants as aggregate
use Rattle.vortex_expr.specs.declared.scalar_fn.ExprKind.TheVariants as kind
use Rattle.vortex_expr.specs.declared.scalar_fn.ScalarFnId.TheVariants as function
use Rattle.vortex_base.specs.Worked.Examples.{column_a, i32_or_null}
use Rattle.vortex_expr.specs.Worked.ExpressionExamples.{a_at_0, closed_ends, int, of_type, row_of_5, u64_type}
use Rattle.vortex_expr.specs.Meanings.Fitting.{fits_row, fits_scope}
use Rattle.vortex_expr.specs.Patterns.Like.{plain}
use Rattle.vortex_expr.specs.Trees.ScalarFns.{name_of}
use Rattle.vortex_expr.specs.Trees.Tree.{Tree, Place, column, binary, between, is_null, is_not_null, not, like, stat, row_count, children, has_bare_column, has_column, has_placeholder, has_row_count, is_closed, is_plain, kind_of, scalar_fn_of}

abbrev one : Tree Place
one = int 1

abbrev greatest : Tree Place
greatest = stat aggregate.Max a_at_0

-- the subtree itself; then on the left and on the right of an AND; at the three places of a range; in a null test, in its opposite and in a NOT; as text and as pattern; in a placeholder
abbrev places : Tree Place → List (Tree Place)
places e = e ∷ binary operator.And e one ∷ binary operator.And one e
    ∷ between closed_ends e one one ∷ between closed_ends one e one ∷ between closed_ends one one e
    ∷ is_null e ∷ is_not_null e ∷ not e
    ∷ like plain e one ∷ like plain one e
    ∷ stat aggregate.Max e ∷ []

abbrev everywhere : List Bool
everywhere = true ∷ true ∷ true ∷ true ∷ true ∷ true ∷ true ∷ true ∷ true ∷ true ∷ true ∷ true ∷ []

abbrev nowhere : List Bool
nowhere = map not_b everywhere

-- at each place but the last, the input of a placeholder
abbrev but_in_placeholder : List Bool
but_in_placeholder = true ∷ true ∷ true ∷ true ∷ true ∷ true ∷ true ∷ true ∷ true ∷ true ∷ true ∷ false ∷ []

abbrev in_placeholder : List Bool
in_placeholder = map not_b but_in_placeholder

bare_column : map has_bare_column (places a_at_0) ≡ but_in_placeholder
bare_column = refl

no_bare_column : map has_bare_column (places one) ≡ nowhere
no_bare_column = refl

no_bare_column_in_placeholders : map has_bare_column (places greatest) ≡ nowhere
no_bare_column_in_placeholders = refl

bare_beside_placeholder : map has_bare_column (binary operator.Eq greatest a_at_0 ∷ binary operator.Eq greatest greatest ∷ row_count ∷ []) ≡ true ∷ false ∷ false ∷ []
bare_beside_placeholder = refl

some_column : map has_column (places a_at_0) ≡ everywhere
some_column = refl

no_column : map has_column (places one) ≡ nowhere
no_column = refl

some_placeholder : map has_placeholder (places greatest) ≡ everywhere
some_placeholder = refl

no_placeholder : map has_placeholder (places a_at_0) ≡ in_placeholder
no_placeholder = refl

some_row_count : map has_row_count (places row_count) ≡ everywhere
some_row_count = refl

no_row_count : map has_row_count (places a_at_0) ≡ nowhere
no_row_count = refl

plain_row : map is_plain (a_at_0 ∷ one ∷ greatest ∷ row_count ∷ []) ≡ true ∷ true ∷ false ∷ false ∷ []
plain_row = refl

closed_row : map is_closed (a_at_0 ∷ one ∷ greatest ∷ row_count ∷ []) ≡ false ∷ true ∷ false ∷ true ∷ []
closed_row = refl

-- ---- fitting, at each place

in_scope : map (λ e. fits_scope e (column_a ∷ [])) (places a_at_0) ≡ everywhere
in_scope = refl

out_of_scope : map (λ e. fits_scope e []) (places a_at_0) ≡ nowhere
out_of_scope = refl

of_another_type : map (λ e. fits_scope e (column_a ∷ [])) (places (of_type i32_or_null)) ≡ nowhere
of_another_type = refl

in_row : map (λ e. fits_row e row_of_5) (places a_at_0) ≡ everywhere
in_row = refl

out_of_row : map (λ e. fits_row e row_of_5) (places (of_type u64_type)) ≡ nowhere
out_of_row = refl

-- ---- children, from the left

two_children : children (binary operator.Gt a_at_0 one) ≡ a_at_0 ∷ one ∷ []
two_children = refl

three_children : children (between closed_ends a_at_0 one greatest) ≡ a_at_0 ∷ one ∷ greatest ∷ []
three_children = refl

text_and_pattern : children (like plain a_at_0 one) ≡ a_at_0 ∷ one ∷ []
text_and_pattern = refl

one_child : map (λ e. length (children e)) (is_null one ∷ is_not_null one ∷ not one ∷ greatest ∷ []) ≡ 1 ∷ 1 ∷ 1 ∷ 1 ∷ []
one_child = refl

no_child : map (λ e. length (children e)) (a_at_0 ∷ one ∷ row_count ∷ []) ≡ 0 ∷ 0 ∷ 0 ∷ []
no_child = refl

-- ---- what the top node is: one of each of the ten

abbrev nodes : List (Tree Place)
nodes = column (record { index = 3; dtype = u64_type }) ∷ one ∷ binary operator.Gte one one ∷ between closed_ends one one one ∷ is_null one ∷ is_not_null one
    ∷ not one ∷ like plain one one ∷ greatest ∷ row_count ∷ []

kinds : map kind_of nodes ≡ kind.Column 3 ∷ kind.Literal ∷ kind.Binary operator.Gte ∷ kind.Between closed_ends ∷ kind.IsNull ∷ kind.IsNotNull
    ∷ kind.Not ∷ kind.Like plain ∷ kind.Stat aggregate.Max ∷ kind.RowCount ∷ []
kinds = refl

functions : map scalar_fn_of nodes ≡ None ∷ Some function.Literal ∷ Some function.Binary ∷ Some function.Between ∷ Some function.IsNull ∷ Some function.IsNotNull
    ∷ Some function.Not ∷ Some function.Like ∷ Some function.Stat ∷ Some function.RowCount ∷ []
functions = refl

function_names : map name_of (function.Literal ∷ function.Binary ∷ function.Between ∷ function.IsNull ∷ function.IsNotNull ∷ function.Not ∷ function.Like ∷ function.Stat ∷ function.RowCount ∷ [])
    ≡ codes "literal" ∷ codes "binary" ∷ codes "between" ∷ codes "is_null" ∷ codes "is_not_null" ∷ codes "not" ∷ codes "like" ∷ codes "vortex.stat" ∷ codes "row_count" ∷ []
function_names = refl
