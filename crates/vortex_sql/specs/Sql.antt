-- What a test of SQL means on a row.
use Rattle.std.specs.Prelude.{ℕ, ℤ, pos, ◌==◌, Bool, true, false, Option, Some, None, List, [], ◌∷◌, option_map, is_none, slice_get, if◌then◌else◌}
use Rattle.std.specs.declared.cmp.Ordering.{Ordering}
use Rattle.std.specs.Ordering.{int_cmp, nat_cmp}
use Rattle.std.specs.Cmp.Lexicographic.{slice_cmp}
use Rattle.vortex_base.specs.declared.scalar_value.ScalarValue.{ScalarValue}
use Rattle.vortex_base.specs.declared.scalar_value.ScalarValue.TheVariants as value
use Rattle.vortex_base.specs.Data.Values.{number_of}
use Rattle.vortex_base.specs.Data.Scalars.{Constant}
use Rattle.vortex_base.specs.Data.Columns.{cell_value}
use Rattle.vortex_expr.specs.declared.scalar_fn.Operator.{Operator}
use Rattle.vortex_expr.specs.declared.scalar_fn.Operator.TheVariants as operator
use Rattle.vortex_expr.specs.Patterns.Like.{like_text}
use Rattle.vortex_expr.specs.Meanings.Meaning.{both, either, holds}
use Rattle.vortex_logical.specs.declared.comparison.Comparison.{Comparison}
use Rattle.vortex_logical.specs.declared.comparison.Comparison.TheVariants as comparison
use Rattle.vortex_logical.specs.declared.logical_type.ExactKind.{ExactKind}
use Rattle.vortex_logical.specs.declared.logical_type.ExactKind.TheVariants.{Number}
use Rattle.vortex_logical.specs.declared.float_type.FloatType.{FloatType}
use Rattle.vortex_logical.specs.declared.float_test.NanMeaning.{NanMeaning}
use Rattle.vortex_logical.specs.declared.float_test.NanMeaning.TheVariants.{Greatest}
use Rattle.vortex_logical.specs.Floats.{float_holds}
use Rattle.vortex_floats.specs.Cells.{bits_at}
use Rattle.vortex_sql.specs.declared.cells.Cells.{Cells}
use Rattle.vortex_sql.specs.declared.cells.Cells.TheVariants.{Values, Exact, Floats}
use Rattle.vortex_logical.specs.Meaning.{Fraction, fraction_cmp, over, steps}
use Rattle.vortex_sql.specs.declared.syntax.tree.Escape.{Escape}
use Rattle.vortex_sql.specs.declared.syntax.tree.Escape.TheVariants as escape
use Rattle.vortex_sql.specs.declared.syntax.tree.Operand.{Operand}
use Rattle.vortex_sql.specs.declared.syntax.tree.Operand.TheVariants as operand
use Rattle.vortex_sql.specs.declared.syntax.tree.Test.{Test}
use Rattle.vortex_sql.specs.declared.syntax.tree.Test.TheVariants as test
use Rattle.vortex_sql.specs.declared.syntax.tree.ExactNumber.{ExactNumber}
use Rattle.vortex_sql.specs.declared.typing.KindFit.{KindFit}
use Rattle.vortex_sql.specs.declared.typing.KindFit.TheVariants.{Same, ByZone, Other}
use Rattle.vortex_sql.specs.Schemas.{Field, SchemaData, find_field}
use Rattle.vortex_sql.specs.Typing.{beside, kind_fit, kind_of, step_of}

abbrev pub operator_of : Comparison → Operator
operator_of comparison.Eq = operator.Eq
operator_of comparison.NotEq = operator.NotEq
operator_of comparison.Gt = operator.Gt
operator_of comparison.Gte = operator.Gte
operator_of comparison.Lt = operator.Lt
operator_of comparison.Lte = operator.Lte

-- the comparison that holds of b and a where this one holds of a and b
abbrev pub flipped : Comparison → Comparison
flipped comparison.Eq = comparison.Eq
flipped comparison.NotEq = comparison.NotEq
flipped comparison.Gt = comparison.Lt
flipped comparison.Gte = comparison.Lte
flipped comparison.Lt = comparison.Gt
flipped comparison.Lte = comparison.Gte

-- ---- values as SQL compares them

-- a number is its size, whatever the width of its type, beside what it counts; a float stands by its bits, of a column with what a NaN means there, or of a literal that the column beside it types
pub data Item : Type 0 where
  truth : Bool → Item
  exact : ExactKind → Fraction → Item
  float : FloatType → Option NanMeaning → (bits : ℕ) → Item
  bits : ℕ → Item
  text : List ℕ → Item
  binary : List ℕ → Item

-- what a whole number in a column stands for
abbrev pub number_item : Cells → ℤ → Item
number_item Values n = exact Number (steps (step_of None) n)
number_item (Exact t) n = exact (kind_of (Some t)) (steps (step_of (Some t)) n)
number_item (Floats t m) n = float t m (bits_at t n)

-- the value that a cell of a column stands for
abbrev pub item_of : Cells → ScalarValue → Item
item_of k (value.Bool b) = truth b
item_of k (value.Primitive p) = number_item k (number_of p)
item_of k (value.Utf8 bs) = text bs
item_of k (value.Binary bs) = binary bs

-- the value of a literal number
abbrev pub exact_item : ExactNumber → Item
exact_item x = exact x.kind (over x.top x.scale)

-- false comes before true
abbrev pub rank : Bool → ℤ
rank false = pos 0
rank true = pos 1

abbrev pub exact_cmp : KindFit → Fraction → Fraction → Option Ordering
exact_cmp Same a b = Some (fraction_cmp a b)
exact_cmp ByZone a b = None
exact_cmp Other a b = None

-- numbers of one kind by size, texts and bytes by their bytes; values of two kinds don't compare
abbrev pub item_cmp : Item → Item → Option Ordering
item_cmp (truth a) (truth b) = Some (int_cmp (rank a) (rank b))
item_cmp (exact k a) (exact l b) = exact_cmp (kind_fit k l) a b
item_cmp (text a) (text b) = Some (slice_cmp nat_cmp a b)
item_cmp (binary a) (binary b) = Some (slice_cmp nat_cmp a b)
item_cmp a b = None

-- what a comparison with NaN means; where that isn't said, only tests are read on which both meanings agree
abbrev pub meant : Option NanMeaning → NanMeaning
meant None = Greatest
meant (Some m) = m

-- whether two values compare so; a float does with a literal as floats do
abbrev pub item_holds : Comparison → Item → Item → Option Bool
item_holds c (float t m a) (bits b) = Some (float_holds (meant m) t c a b)
item_holds c (bits a) (float t m b) = Some (float_holds (meant m) t (flipped c) b a)
item_holds c a b = option_map (holds (operator_of c)) (item_cmp a b)

-- null if either is null
abbrev pub compared : Comparison → Option Item → Option Item → Option Bool
compared c None b = None
compared c (Some a) None = None
compared c (Some a) (Some b) = item_holds c a b

-- one is null and the other isn't, or they differ; never null
abbrev pub distinct : Option Item → Option Item → Option Bool
distinct None None = Some false
distinct None (Some b) = Some true
distinct (Some a) None = Some true
distinct (Some a) (Some b) = item_holds comparison.NotEq a b

-- the whole text matches the pattern, in which % stands for any run of characters, _ for any one, and a backslash makes the next one literal
abbrev pub liked : Option Item → Option Item → Option Bool
liked (Some (text t)) (Some (text p)) = Some (like_text false p t)
liked a b = None

-- a backslash before a literal backslash
abbrev pub plain_byte : ℕ → List ℕ → List ℕ
plain_byte b bs = if b == 92 then 92 ∷ 92 ∷ bs else b ∷ bs

-- the pattern with a backslash where a character e makes the next one literal; none, if it ends in one that does
abbrev pub with_backslash : ℕ → List ℕ → Option (List ℕ)
with_backslash e [] = Some []
with_backslash e (b ∷ []) = if b == e then None else Some (plain_byte b [])
with_backslash e (b ∷ c ∷ bs) = if b == e then option_map (λ rest. 92 ∷ c ∷ rest) (with_backslash e bs) else option_map (plain_byte b) (with_backslash e (c ∷ bs))

-- the pattern where nothing makes a character literal
abbrev pub without_escape : List ℕ → List ℕ
without_escape [] = []
without_escape (b ∷ bs) = plain_byte b (without_escape bs)

abbrev pub pattern_in : Escape → List ℕ → Option (List ℕ)
pattern_in escape.Backslash bs = Some bs
pattern_in (escape.Byte e) bs = with_backslash e bs
pattern_in escape.Nothing bs = Some (without_escape bs)

abbrev pub pattern_of : Escape → Option Item → Option Item
pattern_of e (Some (text bs)) = option_map text (pattern_in e bs)
pattern_of e v = v

abbrev pub truth_of : Option Item → Option Bool
truth_of (Some (truth b)) = Some b
truth_of v = None

-- ---- operands and tests on a row

-- the optional value of a column on a row
abbrev pub field_value : List Constant → Option Field → Option Item
field_value row None = None
field_value row (Some f) = option_map (item_of f.cells) (cell_value (slice_get row f.place.index))

abbrev pub value_in : SchemaData → List Constant → Operand → Option Item
value_in s row (operand.Column name) = field_value row (find_field s name)
value_in s row operand.Null = None
value_in s row (operand.Truth b) = Some (truth b)
value_in s row (operand.Exact x) = Some (exact_item x)
value_in s row (operand.Float b) = Some (bits b)
value_in s row (operand.Text bs) = Some (text bs)
value_in s row (operand.Binary bs) = Some (binary bs)
value_in s row operand.Other = None

-- two operands compared, each as the other one types it
abbrev pub compared_on : SchemaData → List Constant → Comparison → Operand → Operand → Option Bool
compared_on s row c x y = compared c (value_in s row (beside s y x)) (value_in s row (beside s x y))

-- x lies between them, the ends included
abbrev pub within_on : SchemaData → List Constant → Operand → Operand → Operand → Option Bool
within_on s row x lower upper = both (compared_on s row comparison.Gte x lower) (compared_on s row comparison.Lte x upper)

-- x equals one of them: true if it equals one, null if it doesn't and x or one of them is null
abbrev pub among_on : SchemaData → List Constant → Operand → List Operand → Option Bool
among_on s row x [] = Some false
among_on s row x (y ∷ ys) = either (compared_on s row comparison.Eq x y) (among_on s row x ys)

-- what a test means on a row; one that isn't read has its truth from elsewhere
abbrev pub test_truth : SchemaData → List Constant → Test → Option Bool
test_truth s row (test.Truth x) = truth_of (value_in s row x)
test_truth s row (test.Compare c x y) = compared_on s row c x y
test_truth s row (test.Distinct x y) = distinct (value_in s row (beside s y x)) (value_in s row (beside s x y))
test_truth s row (test.IsNull x) = Some (is_none (value_in s row x))
test_truth s row (test.Between x l u) = within_on s row x l u
test_truth s row (test.BetweenSymmetric x l u) = either (within_on s row x l u) (within_on s row x u l)
test_truth s row (test.In x ys) = among_on s row x ys
test_truth s row (test.Like x p e) = liked (value_in s row x) (pattern_of e (value_in s row p))
test_truth s row test.Other = None
