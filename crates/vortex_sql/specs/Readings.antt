-- What is said of a test: an expression, nothing, or that the types of its operands don't fit.
use Rattle.std.specs.Prelude.{◌≡◌, ◌==◌, ◌&&◌, ℕ, ℤ, ◌++◌, Bool, true, false, nat_le, Option, Some, None, List, [], ◌∷◌, Result, Ok, Err, if◌then◌else◌, MatchResult, is_none, is_some, option_map}
use Rattle.std.specs.declared.cmp.Ordering.{Ordering}
use Rattle.vortex_base.specs.declared.types.PType.{PType}
use Rattle.vortex_base.specs.declared.types.Nullability.TheVariants.{Nullable, NonNullable}
use Rattle.vortex_base.specs.declared.dtype.DType.{DType}
use Rattle.vortex_base.specs.declared.dtype.DType.TheVariants as dtype
use Rattle.vortex_base.specs.declared.scalar_value.ScalarValue.{ScalarValue}
use Rattle.vortex_base.specs.declared.scalar_value.ScalarValue.TheVariants as value
use Rattle.vortex_base.specs.Data.Types.{eq_ignore_nullability}
use Rattle.vortex_expr.specs.declared.scalar_fn.Operator.{Operator}
use Rattle.vortex_expr.specs.declared.scalar_fn.Operator.TheVariants as operator
use Rattle.vortex_expr.specs.Meanings.Meaning.{holds, truth_value}
use Rattle.vortex_expr.specs.Meanings.Typing.{is_bool, is_utf8}
use Rattle.vortex_expr.specs.Patterns.Like.{plain}
use Rattle.vortex_expr.specs.Trees.Tree.{Tree, Place, literal, column, binary, is_null, is_not_null, like}
use Rattle.vortex_floats.specs.Cells.{compared as float_compared}
use Rattle.vortex_logical.specs.declared.float_type.FloatType.{FloatType}
use Rattle.vortex_logical.specs.declared.float_test.FloatTest.{FloatTest}
use Rattle.vortex_logical.specs.declared.float_test.NanMeaning.{NanMeaning}
use Rattle.vortex_logical.specs.declared.float_test.NanMeaning.TheVariants.{Greatest}
use Rattle.vortex_logical.specs.declared.logical_type.LogicalType.{LogicalType}
use Rattle.vortex_base.specs.declared.pvalue.PValue.{PValue}
use Rattle.vortex_sql.specs.declared.cells.Cells.{Cells}
use Rattle.vortex_sql.specs.declared.cells.Cells.TheVariants.{Values, Exact, Floats}
use Rattle.vortex_logical.specs.declared.comparison.Comparison.{Comparison}
use Rattle.vortex_logical.specs.declared.comparison.Comparison.TheVariants as comparison
use Rattle.vortex_logical.specs.declared.lower.CellTest.{CellTest}
use Rattle.vortex_logical.specs.Lowering.{lowered}
use Rattle.vortex_logical.specs.Points.{place_of}
use Rattle.vortex_sql.specs.declared.fault.Fault.{Fault}
use Rattle.vortex_sql.specs.declared.fault.Fault.TheVariants.{Memory, Misfit}
use Rattle.vortex_sql.specs.declared.found.Found.{Found}
use Rattle.vortex_sql.specs.declared.syntax.tree.Escape.TheVariants as escape
use Rattle.vortex_sql.specs.declared.syntax.tree.Operand.{Operand}
use Rattle.vortex_sql.specs.declared.syntax.tree.Operand.TheVariants as operand
use Rattle.vortex_sql.specs.declared.syntax.tree.Test.{Test}
use Rattle.vortex_sql.specs.declared.syntax.tree.Test.TheVariants as test
use Rattle.vortex_sql.specs.declared.syntax.tree.ExactNumber.{ExactNumber}
use Rattle.vortex_sql.specs.declared.typing.KindFit.{KindFit}
use Rattle.vortex_sql.specs.declared.typing.KindFit.TheVariants.{Same, ByZone, Other as OtherKind}
use Rattle.vortex_sql.specs.Schemas.{Field, SchemaData, find_field}
use Rattle.vortex_logical.specs.declared.logical_type.ExactKind.TheVariants.{Number}
use Rattle.vortex_sql.specs.Typing.{are_same_cells, beside, is_same, kind_fit, kind_of, step_of}
use Rattle.vortex_sql.specs.Sql.{Item, truth as truth_item, exact_item, text, binary as binary_item, item_cmp, operator_of, flipped}
use Rattle.vortex_sql.specs.Numbers.{in_type, range_of, sized_in}
use Rattle.vortex_sql.specs.Halves.{joined}

abbrev pub place_of_found : Found → Place
place_of_found f = record { index = f.index; dtype = f.dtype }

abbrev pub field_of_found : Found → Field
field_of_found f = record { place = place_of_found f; cells = f.cells }

abbrev pub tree_of_found : Found → Tree Place
tree_of_found f = column (place_of_found f)

abbrev pub Reading : Type 0
Reading = Result (Option (Tree Place)) Fault

-- this value, unless memory was refused
abbrev pub Yields : {A : Type 0} → A → Result A Fault → Type 0
Yields v r = MatchResult r (λ w. w ≡ v) (λ f. f ≡ Memory)

-- what is said, or that the types don't fit where they don't, unless memory was refused
abbrev pub Reads : {A : Type 0} → Result A Fault → Result A Fault → Type 0
Reads s r = MatchResult r (λ w. Ok w ≡ s) (λ f. f ≡ Misfit → Err f ≡ s)

abbrev pub said : Tree Place → Reading
said t = Ok (Some t)

abbrev pub unread : Reading
unread = Ok None

-- ---- literals

abbrev pub bool_or_null : DType
bool_or_null = dtype.Bool Nullable

abbrev pub truth_literal : Option Bool → Tree Place
truth_literal b = literal (record { dtype = bool_or_null; value = truth_value b })

abbrev pub constant : DType → ScalarValue → Tree Place
constant t v = literal (record { dtype = t; value = Some v })

-- two literal numbers are compared only if they are whole
abbrev pub is_whole : ExactNumber → Bool
is_whole x = is_same (kind_fit x.kind Number) && (x.scale == 0)

abbrev pub whole_literal : ExactNumber → Bool → Option (Option Item)
whole_literal x true = Some (Some (exact_item x))
whole_literal x false = None

-- the value of a literal, which may be null, or nothing of what is none
abbrev pub literal_of : Operand → Option (Option Item)
literal_of (operand.Column name) = None
literal_of operand.Null = Some None
literal_of (operand.Truth b) = Some (Some (truth_item b))
literal_of (operand.Exact x) = whole_literal x (is_whole x)
literal_of (operand.Float b) = None
literal_of (operand.Text bs) = Some (Some (text bs))
literal_of (operand.Binary bs) = Some (Some (binary_item bs))
literal_of operand.Other = None

abbrev pub has_value : Option (Option Item) → Option Bool
has_value None = None
has_value (Some v) = Some (is_some v)

-- the order of two literals of one kind that aren't null
abbrev pub literal_order : Option (Option Item) → Option (Option Item) → Option Ordering
literal_order (Some (Some a)) (Some (Some b)) = item_cmp a b
literal_order a b = None

-- what a comparison of two literals is by their order; those of two kinds have none
abbrev pub folded : Comparison → Option Ordering → Reading
folded c (Some o) = said (truth_literal (Some (holds (operator_of c) o)))
folded c None = Err Misfit

-- a comparison of two operands of which neither is a column; one with null is null
abbrev pub literals : Comparison → Option (Option Item) → Option (Option Item) → Reading
literals c (Some None) b = said (truth_literal None)
literals c None (Some None) = said (truth_literal None)
literals c (Some (Some a)) (Some None) = said (truth_literal None)
literals c (Some (Some a)) (Some (Some b)) = folded c (item_cmp a b)
literals c a b = unread

-- ---- comparisons

abbrev pub comparing : Comparison → Place → Tree Place → Tree Place
comparing c p t = binary (operator_of c) (column p) t

-- both parts, if both are said
abbrev pub both_said : Operator → Option (Tree Place) → Option (Tree Place) → Option (Tree Place)
both_said o None b = None
both_said o (Some s) None = None
both_said o (Some s) (Some t) = Some (binary o s t)

abbrev pub joined_by : Operator → Reading → Reading → Reading
joined_by o (Ok a) (Ok b) = Ok (both_said o a b)
joined_by o (Ok a) (Err e) = Err e
joined_by o (Err e) b = Err e

-- the test of a column's numbers that says what the comparison with the literal says
abbrev pub exact_test : Comparison → Option LogicalType → PType → ExactNumber → CellTest
exact_test c l n x = lowered c (place_of (step_of l) x.top x.scale) (range_of n)

abbrev pub testing : CellTest → Place → PType → DType → Tree Place
testing r p n t = comparing r.comparison p (constant t (value.Primitive (sized_in n r.number)))

-- a literal of more than 33 digits behind the point isn't read
abbrev pub exact_reading : Comparison → Option LogicalType → Place → PType → DType → ExactNumber → Reading
exact_reading c l p n t x = if nat_le x.scale 33 then said (testing (exact_test c l n x) p n t) else unread

-- A number of another kind misfits a column of a logical type. One whose cells are the numbers themselves may stand for anything, so nothing is said.
abbrev pub of_fit : KindFit → (is_logical : Bool) → Reading → Reading
of_fit Same b r = r
of_fit ByZone b r = unread
of_fit OtherKind true r = Err Misfit
of_fit OtherKind false r = unread

abbrev pub with_kind : Comparison → Option LogicalType → Place → PType → DType → ExactNumber → Reading
with_kind c l p n t x = of_fit (kind_fit (kind_of l) x.kind) (is_some l) (exact_reading c l p n t x)

-- a column of a type with an operand that is no column: a literal takes the column's type
abbrev pub exact_literal : Comparison → Option LogicalType → Place → DType → Operand → Reading
exact_literal c l p t operand.Other = unread
exact_literal c l p t operand.Null = said (truth_literal None)
exact_literal c l p (dtype.Primitive n m) (operand.Exact x) = with_kind c l p n (dtype.Primitive n m) x
exact_literal c l p (dtype.Bool m) (operand.Truth b) = said (comparing c p (constant (dtype.Bool m) (value.Bool b)))
exact_literal c l p (dtype.Utf8 m) (operand.Text bs) = said (comparing c p (constant (dtype.Utf8 m) (value.Utf8 bs)))
exact_literal c l p (dtype.Binary m) (operand.Binary bs) = said (comparing c p (constant (dtype.Binary m) (value.Binary bs)))
exact_literal c l p t y = Err Misfit

-- a comparison of the whole numbers of a column, where its type has the other number
abbrev pub in_type_reading : Comparison → Place → DType → Option PValue → Reading
in_type_reading c p t None = unread
in_type_reading c p t (Some v) = said (comparing c p (constant t (value.Primitive v)))

abbrev pub cell_reading : Comparison → ℤ → Place → PType → DType → Reading
cell_reading c k p n t = in_type_reading c p t (in_type n k)

-- what is said, and that the whole numbers are below a bound, if there is one
abbrev pub below_reading : Option ℤ → Place → PType → DType → Reading → Reading
below_reading None p n t r = r
below_reading (Some k) p n t r = joined_by operator.And r (cell_reading comparison.Lt k p n t)

-- a test of the whole numbers of floats, if there is one
abbrev pub float_reading : Option FloatTest → Place → PType → DType → Reading
float_reading None p n t = unread
float_reading (Some x) p n t = below_reading x.below p n t (cell_reading x.test.comparison x.test.number p n t)

-- a column of floats with an operand that is no column
abbrev pub float_literal : Comparison → FloatType → Option NanMeaning → Place → DType → Operand → Reading
float_literal c x m p t operand.Other = unread
float_literal c x m p t operand.Null = said (truth_literal None)
float_literal c x m p (dtype.Primitive n z) (operand.Float b) = float_reading (float_compared x m c b) p n (dtype.Primitive n z)
float_literal c x m p t y = Err Misfit

abbrev pub cells_literal : Comparison → Cells → Place → DType → Operand → Reading
cells_literal c Values p t y = exact_literal c None p t y
cells_literal c (Exact l) p t y = exact_literal c (Some l) p t y
cells_literal c (Floats x m) p t y = float_literal c x m p t y

abbrev pub with_literal : Comparison → Field → DType → Operand → Reading
with_literal c f t y = cells_literal c f.cells f.place t y

-- two columns of types that are both of numbers, of which only those whose cells stand for the same values are compared
abbrev pub are_numbers : DType → DType → Bool
are_numbers (dtype.Primitive p m) (dtype.Primitive q n) = true
are_numbers s t = false

abbrev pub with_place : Comparison → Field → Option Field → Reading
with_place c f None = unread
with_place c f (Some g) =
    if eq_ignore_nullability f.place.dtype g.place.dtype && are_same_cells f.cells g.cells then said (comparing c f.place (column g.place))
    else (if are_numbers f.place.dtype g.place.dtype then unread else Err Misfit)

abbrev pub with_operand : SchemaData → Comparison → Field → Operand → Reading
with_operand s c f (operand.Column name) = with_place c f (find_field s name)
with_operand s c f y = with_literal c f f.place.dtype y

abbrev pub from_place : SchemaData → Comparison → Option Field → Operand → Reading
from_place s c None operand.Null = said (truth_literal None)
from_place s c None y = unread
from_place s c (Some f) y = with_operand s c f y

-- an operand that is no column with another one
abbrev pub from_literal : SchemaData → Comparison → Operand → Operand → Reading
from_literal s c x (operand.Column name) = from_place s (flipped c) (find_field s name) x
from_literal s c x y = literals c (literal_of x) (literal_of y)

abbrev pub compare_typed : SchemaData → Comparison → Operand → Operand → Reading
compare_typed s c (operand.Column name) y = from_place s c (find_field s name) y
compare_typed s c x y = from_literal s c x y

-- each operand as the other one types it
abbrev pub compare : SchemaData → Comparison → Operand → Operand → Reading
compare s c x y = compare_typed s c (beside s y x) (beside s x y)

-- ---- other tests

-- a column that stands for a truth
abbrev pub as_truth : Option Field → Reading
as_truth None = unread
as_truth (Some f) = if is_bool f.place.dtype then said (column f.place) else Err Misfit

abbrev pub truth : SchemaData → Operand → Reading
truth s (operand.Column name) = as_truth (find_field s name)
truth s operand.Null = said (truth_literal None)
truth s (operand.Truth b) = said (truth_literal (Some b))
truth s operand.Other = unread
truth s x = Err Misfit

abbrev pub as_null_test : Option Field → Reading
as_null_test None = unread
as_null_test (Some f) = said (is_null (column f.place))

-- whether a literal is null
abbrev pub literal_null_test : Option (Option Item) → Reading
literal_null_test None = unread
literal_null_test (Some v) = said (truth_literal (Some (is_none v)))

abbrev pub null_test : SchemaData → Operand → Reading
null_test s (operand.Column name) = as_null_test (find_field s name)
null_test s x = literal_null_test (literal_of x)

-- a column is distinct from a literal if it differs from it or is null; of two columns that isn't said
abbrev pub distinct_from : Field → Operand → Reading
distinct_from f (operand.Column name) = unread
distinct_from f operand.Null = said (is_not_null (column f.place))
distinct_from f y = joined_by operator.Or (with_literal comparison.NotEq f f.place.dtype y) (said (is_null (column f.place)))

abbrev pub distinct_at : Option Field → Operand → Reading
distinct_at None y = unread
distinct_at (Some f) y = distinct_from f y

-- two literals by whether each has a value and by their order: a null is distinct from a value alone
abbrev pub distinct_by : Option Bool → Option Bool → Option Ordering → Reading
distinct_by None b o = unread
distinct_by (Some a) None o = unread
distinct_by (Some false) (Some b) o = said (truth_literal (Some b))
distinct_by (Some true) (Some false) o = said (truth_literal (Some true))
distinct_by (Some true) (Some true) o = folded comparison.NotEq o

abbrev pub distinct_literals : Option (Option Item) → Option (Option Item) → Reading
distinct_literals i j = distinct_by (has_value i) (has_value j) (literal_order i j)

abbrev pub distinct_from_literal : SchemaData → Operand → Operand → Reading
distinct_from_literal s x (operand.Column name) = distinct_at (find_field s name) x
distinct_from_literal s x y = distinct_literals (literal_of x) (literal_of y)

abbrev pub distinct_typed : SchemaData → Operand → Operand → Reading
distinct_typed s (operand.Column name) y = distinct_at (find_field s name) y
distinct_typed s x y = distinct_from_literal s x y

-- each operand as the other one types it
abbrev pub distinct_test : SchemaData → Operand → Operand → Reading
distinct_test s x y = distinct_typed s (beside s y x) (beside s x y)

-- where it isn't said what a NaN means it is above all other numbers, as in what a test means
abbrev pub ordered : Cells → Cells
ordered (Floats x None) = Floats x (Some Greatest)
ordered (Floats x (Some m)) = Floats x (Some m)
ordered Values = Values
ordered (Exact l) = Exact l

abbrev pub ordered_field : Field → Field
ordered_field f = record f { cells = ordered f.cells }

-- x is at least the lower end of a range, whose upper end is given as x types it: below a float both meanings of NaN say the same of the range
abbrev pub at_least : SchemaData → Operand → Operand → Operand → Reading
at_least s (operand.Column name) l (operand.Float b) = from_place s comparison.Gte (option_map ordered_field (find_field s name)) (beside s (operand.Column name) l)
at_least s x l y = compare s comparison.Gte x l

abbrev pub between_test : SchemaData → Operand → Operand → Operand → Reading
between_test s x l u = joined_by operator.And (at_least s x l (beside s x u)) (compare s comparison.Lte x u)

abbrev pub symmetric_test : SchemaData → Operand → Operand → Operand → Reading
symmetric_test s x l u = joined_by operator.Or (between_test s x l u) (between_test s x u l)

-- the expressions that are said of the members of a list, if all are said
abbrev pub Members : Type 0
Members = Result (Option (List (Tree Place))) Fault

abbrev pub one_more : Option (List (Tree Place)) → Option (Tree Place) → Option (List (Tree Place))
one_more None e = None
one_more (Some es) None = None
one_more (Some es) (Some e) = Some (es ++ e ∷ [])

abbrev pub with_member : Members → Reading → Members
with_member (Ok a) (Ok b) = Ok (one_more a b)
with_member (Ok a) (Err e) = Err e
with_member (Err e) b = Err e

abbrev pub members_from : SchemaData → Operand → Members → List Operand → Members
members_from s x before [] = before
members_from s x before (y ∷ ys) = members_from s x (with_member before (compare s comparison.Eq x y)) ys

abbrev pub any_of : Members → Reading
any_of (Ok (Some es)) = Ok (joined es)
any_of (Ok None) = unread
any_of (Err e) = Err e

abbrev pub member : SchemaData → Operand → List Operand → Reading
member s x ys = any_of (members_from s x (Ok (Some [])) ys)

abbrev pub like_place : Option Field → List ℕ → Reading
like_place None bs = unread
like_place (Some f) bs = if is_utf8 f.place.dtype then said (like plain (column f.place) (constant (dtype.Utf8 NonNullable) (value.Utf8 bs))) else Err Misfit

-- a column with a pattern
abbrev pub pattern_test : SchemaData → Operand → Operand → Reading
pattern_test s (operand.Column name) (operand.Text bs) = like_place (find_field s name) bs
pattern_test s x operand.Null = said (truth_literal None)
pattern_test s x p = unread

abbrev pub reading : SchemaData → Test → Reading
reading s (test.Truth x) = truth s x
reading s (test.Compare c x y) = compare s c x y
reading s (test.Distinct x y) = distinct_test s x y
reading s (test.IsNull x) = null_test s x
reading s (test.Between x l u) = between_test s x l u
reading s (test.BetweenSymmetric x l u) = symmetric_test s x l u
reading s (test.In x ys) = member s x ys
reading s (test.Like x p escape.Backslash) = pattern_test s x p
reading s (test.Like x p e) = unread
reading s test.Other = unread
