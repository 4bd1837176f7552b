-- Values of one type compare as SQL's values do, and a column's numbers with a literal as its values do.
use Rattle.std.proofs.Common.{◌≡◌, ◌<◌, ℕ, zero, suc, Bool, true, false, List, refl, sym, ◌∙◌, ap, subst, arith}
use Rattle.std.proofs.lemmas.Bool.Decides.{nat_tests}
use Rattle.std.proofs.lemmas.Int.{ints}
use Rattle.std.proofs.lemmas.Cmp.{nat_cmp_total, int_cmp_total, nat_list_cmp_total, tied_itself}
use Rattle.std.specs.Cmp.{IsTotalOrder}
use Rattle.std.specs.Cmp.Lexicographic.{slice_cmp}
use Rattle.std.specs.Ordering.{nat_cmp, int_cmp, ordering_then, ordering_reverse}
use Rattle.std.specs.declared.cmp.Ordering.{Ordering}
use Rattle.std.specs.declared.cmp.Ordering.TheVariants.{Less, Equal, Greater}
use Rattle.std.specs.Prelude.{ℤ, pos, negsuc, ◌*ℤ◌, ◌<ℤ◌, ◌≤ℤ◌, int_le, int_lt, Option, Some, None, ◌==◌, ◌&&◌, if◌then◌else◌, option_map, unwrap_or}
use Rattle.vortex_base.specs.Data.Exact.{both_true}
use Rattle.vortex_base.specs.declared.types.PType.{PType}
use Rattle.vortex_base.specs.declared.types.PType.TheVariants as ptype
use Rattle.vortex_base.specs.declared.types.Nullability.{Nullability}
use Rattle.vortex_base.specs.declared.dtype.DType.{DType}
use Rattle.vortex_base.specs.declared.dtype.DType.TheVariants as dtype
use Rattle.vortex_base.specs.declared.pvalue.PValue.{PValue}
use Rattle.vortex_base.specs.declared.scalar_value.ScalarValue.{ScalarValue}
use Rattle.vortex_base.specs.declared.scalar_value.ScalarValue.TheVariants as value
use Rattle.vortex_base.specs.Data.Types.{as_nullable, is_nullable, ptype_index}
use Rattle.vortex_base.specs.Data.Values.{kind_index, value_cmp, is_value, number_of, ptype_of, least, greatest, in_range}
use Rattle.vortex_base.specs.Data.Scalars.{is_optional_value}
use Rattle.vortex_expr.specs.Meanings.Meaning.{applied, both, holds}
use Rattle.vortex_expr.specs.Meanings.Meaning as meanings
use Rattle.vortex_logical.specs.declared.comparison.Comparison.{Comparison}
use Rattle.vortex_logical.specs.declared.comparison.Comparison.TheVariants as comparison
use Rattle.vortex_logical.specs.declared.exact.Step.{Step}
use Rattle.vortex_logical.specs.declared.logical_type.ExactKind.{ExactKind}
use Rattle.vortex_logical.specs.declared.logical_type.ExactKind.TheVariants.{Number, Clock, Instant, TimeOfDay}
use Rattle.vortex_logical.specs.declared.logical_type.LogicalType.{LogicalType}
use Rattle.vortex_logical.specs.declared.logical_type.LogicalType.TheVariants.{Date, Time, Timestamp, TimestampTz, Decimal}
use Rattle.vortex_logical.specs.Lowering.{IsIn, lowered, test_holds}
use Rattle.vortex_logical.specs.Meaning.{Fraction, fraction_cmp, over, steps}
use Rattle.vortex_logical.specs.Meaning as logical
use Rattle.vortex_logical.specs.Points.{IsShort, place_of}
use Rattle.vortex_logical.proofs.Clamping.{lowered_in}
use Rattle.vortex_logical.proofs.Orders.{cases_int, is_equal, is_greater, is_less, le_is_true, le_true}
use Rattle.vortex_logical.proofs.Placed.{compare_is, steps_cmp}
use Rattle.vortex_logical.proofs.Products.{product_le, product_once}
use Rattle.vortex_sql.specs.declared.syntax.tree.ExactNumber.{ExactNumber}
use Rattle.vortex_sql.specs.declared.typing.KindFit.{KindFit}
use Rattle.vortex_sql.specs.declared.typing.KindFit.TheVariants.{Same, ByZone, Other}
use Rattle.vortex_sql.specs.Sql.{Item, truth, exact, float, bits, text, binary, item_of, number_item, item_cmp, item_holds, meant, exact_cmp, exact_item, compared, operator_of, flipped, rank}
use Rattle.vortex_sql.specs.Typing.{are_same_cells, are_same_steps, is_same, kind_fit, kind_of, step_of}
use Rattle.vortex_sql.specs.declared.cells.Cells.{Cells}
use Rattle.vortex_sql.specs.declared.cells.Cells.TheVariants.{Values, Exact, Floats}
use Rattle.vortex_floats.specs.Cells.{Allows, SaysOf}
use Rattle.vortex_logical.specs.declared.float_test.FloatTest.{FloatTest}
use Rattle.vortex_logical.specs.declared.float_test.NanMeaning.{NanMeaning}
use Rattle.vortex_logical.specs.declared.float_type.FloatType.{FloatType}
use Rattle.vortex_logical.specs.Floats.{below_holds, float_holds}
use Rattle.vortex_sql.specs.Readings.{ordered}
use Rattle.vortex_sql.specs.Numbers.{in_type, sized, sized_in, least_of, range_of}

then-equal : (o : Ordering) → ordering_then o Equal ≡ o
then-equal Less = refl
then-equal Equal = refl
then-equal Greater = refl

-- ---- two values of one type

numbers_cmp : (p q : PValue) → ptype_index (ptype_of p) ≡ ptype_index (ptype_of q) → value_cmp (value.Primitive p) (value.Primitive q) ≡ int_cmp (number_of p) (number_of q)
numbers_cmp p q same =
    let place : nat_cmp (ptype_index (ptype_of p)) (ptype_index (ptype_of q)) ≡ Equal =
    ap (λ i. nat_cmp (ptype_index (ptype_of p)) i) (sym same) ∙ tied_itself nat_cmp_total (ptype_index (ptype_of p)) in
    ap (λ o. ordering_then o (ordering_then (int_cmp (number_of p) (number_of q)) Equal)) place ∙ then-equal (int_cmp (number_of p) (number_of q))

bools_cmp : (a b : Bool) → item_cmp (truth a) (truth b) ≡ Some (value_cmp (value.Bool a) (value.Bool b))
bools_cmp true true = refl
bools_cmp true false = refl
bools_cmp false true = refl
bools_cmp false false = refl

equal_itself : (i : ℕ) → (i == i) ≡ true
equal_itself i = grind (arith, nat_tests)

same_index : (i j k : ℕ) → (i == k) ≡ true → (j == k) ≡ true → i ≡ j
same_index i j k e f = grind (arith, nat_tests)

-- the place among the kinds of values of a type's values
abbrev kind_of_type : DType → ℕ
kind_of_type (dtype.Bool n) = 0
kind_of_type (dtype.Primitive p n) = 1
kind_of_type (dtype.Utf8 n) = 2
kind_of_type (dtype.Binary n) = 3
kind_of_type t = 4

kinds : (v : ScalarValue) (t : DType) → is_value v t ≡ true → kind_index v ≡ kind_of_type t
kinds (value.Bool b) (dtype.Bool n) h = refl
kinds (value.Bool b) t h = cc
kinds (value.Primitive p) (dtype.Primitive q n) h = refl
kinds (value.Primitive p) t h = cc
kinds (value.Utf8 b) (dtype.Utf8 n) h = refl
kinds (value.Utf8 b) t h = cc
kinds (value.Binary b) (dtype.Binary n) h = refl
kinds (value.Binary b) t h = cc

fit_itself : (k : ExactKind) → kind_fit k k ≡ Same
fit_itself Number = refl
fit_itself Clock = refl
fit_itself Instant = refl
fit_itself TimeOfDay = refl

each_positive : (l : Option LogicalType) → 0 < (step_of l).each
each_positive None = omega arith
each_positive (Some Date) = omega arith
each_positive (Some (Time u)) = omega arith
each_positive (Some (Timestamp u)) = omega arith
each_positive (Some (TimestampTz u)) = omega arith
each_positive (Some (Decimal d)) = omega arith

-- the cells of values, or of a logical type
abbrev pub cells_of : Option LogicalType → Cells
cells_of None = Values
cells_of (Some t) = Exact t

abbrev steps_compare : Option LogicalType → ℤ → ℤ → Type 0
steps_compare l a b = exact_cmp (kind_fit (kind_of l) (kind_of l)) (steps (step_of l) a) (steps (step_of l) b) ≡ Some (int_cmp a b)

steps_compared : (l : Option LogicalType) (a b : ℤ) → steps_compare l a b
steps_compared l a b =
    ap (λ w. exact_cmp w (steps (step_of l) a) (steps (step_of l) b)) (fit_itself (kind_of l))
    ∙ ap Some (steps_cmp (step_of l) a b (each_positive l))

-- the cells of a column compare as their numbers
cells_cmp : (l : Option LogicalType) (a b : ℤ) → item_cmp (number_item (cells_of l) a) (number_item (cells_of l) b) ≡ Some (int_cmp a b)
cells_cmp None a b = steps_compared None a b
cells_cmp (Some t) a b = steps_compared (Some t) a b

-- so they hold
exact_holds : (c : Comparison) (l : Option LogicalType) (v : ScalarValue) (y : Item) → item_holds c (item_of (cells_of l) v) y ≡ option_map (holds (operator_of c)) (item_cmp (item_of (cells_of l) v) y)
exact_holds c l (value.Bool a) y = refl
exact_holds c None (value.Primitive p) y = refl
exact_holds c (Some t) (value.Primitive p) y = refl
exact_holds c l (value.Utf8 a) y = refl
exact_holds c l (value.Binary a) y = refl

-- values of one type compare as SQL's values do
pub cmp_is : (l : Option LogicalType) (v w : ScalarValue) (t : DType) → is_value v t ≡ true → is_value w t ≡ true → item_cmp (item_of (cells_of l) v) (item_of (cells_of l) w) ≡ Some (value_cmp v w)
cmp_is l (value.Bool a) (value.Bool b) (dtype.Bool n) h k = bools_cmp a b
cmp_is l (value.Primitive p) (value.Primitive q) (dtype.Primitive t n) h k =
    cells_cmp l (number_of p) (number_of q)
    ∙ ap Some (sym (numbers_cmp p q (same_index _ _ (ptype_index t) (both_true _ _ h).0 (both_true _ _ k).0)))
cmp_is l (value.Utf8 a) (value.Utf8 b) (dtype.Utf8 n) h k = refl
cmp_is l (value.Binary a) (value.Binary b) (dtype.Binary n) h k = refl
cmp_is l v w t h k = let e : kind_index v ≡ kind_index w = kinds v t h ∙ sym (kinds w t k) in cc

-- ---- comparisons of two optional values

-- what two optional values of one type compare to
applied-compared : (c : Comparison) (a b : Option ScalarValue) → applied (operator_of c) a b ≡ meanings.compared (operator_of c) a b
applied-compared comparison.Eq a b = refl
applied-compared comparison.NotEq a b = refl
applied-compared comparison.Gt a b = refl
applied-compared comparison.Gte a b = refl
applied-compared comparison.Lt a b = refl
applied-compared comparison.Lte a b = refl

values_compared : (c : Comparison) (l : Option LogicalType) (a b : Option ScalarValue) (t : DType) → is_optional_value a (as_nullable t) ≡ true → is_optional_value b (as_nullable t) ≡ true
    → meanings.compared (operator_of c) a b ≡ compared c (option_map (item_of (cells_of l)) a) (option_map (item_of (cells_of l)) b)
values_compared c l None b t h k = refl
values_compared c l (Some v) None t h k = refl
values_compared c l (Some v) (Some w) t h k = ap (option_map (holds (operator_of c))) (sym (cmp_is l v w (as_nullable t) h k)) ∙ sym (exact_holds c l v (item_of (cells_of l) w))

pub optional_compared : (c : Comparison) (l : Option LogicalType) (a b : Option ScalarValue) (t : DType) → is_optional_value a (as_nullable t) ≡ true → is_optional_value b (as_nullable t) ≡ true
    → applied (operator_of c) a b ≡ compared c (option_map (item_of (cells_of l)) a) (option_map (item_of (cells_of l)) b)
optional_compared c l a b t h k = applied-compared c a b ∙ values_compared c l a b t h k

-- ---- cells that stand for the same values

fit_same : (k l : ExactKind) → is_same (kind_fit k l) ≡ true → l ≡ k
fit_same Number Number h = refl
fit_same Clock Clock h = refl
fit_same Instant Instant h = refl
fit_same TimeOfDay TimeOfDay h = refl
fit_same k l h = cc

same_number : (a b : ℕ) → (a == b) ≡ true → b ≡ a
same_number a b h = grind (arith, nat_tests)

abbrev step_with : ℕ → ℕ → Step
step_with each scale = record { each = each; scale = scale }

abbrev item_with : ExactKind → Step → ℤ → Item
item_with k s n = exact k (steps s n)

item_exact : (l : Option LogicalType) (n : ℤ) → number_item (cells_of l) n ≡ item_with (kind_of l) (step_of l) n
item_exact None n = refl
item_exact (Some t) n = refl

-- columns whose cells stand for the same values have the same items
same_exact : (l m : Option LogicalType) (v : ScalarValue) → are_same_steps l m ≡ true → item_of (cells_of m) v ≡ item_of (cells_of l) v
same_exact l m (value.Bool b) h = refl
same_exact l m (value.Primitive p) h =
    let tests = both_true _ _ h in
    let first = both_true _ _ tests.0 in
    let kinds : kind_of m ≡ kind_of l = fit_same (kind_of l) (kind_of m) first.0 in
    let one : step_of m ≡ step_of l =
    ap (λ e. step_with e (step_of m).scale) (same_number (step_of l).each (step_of m).each first.1) ∙ ap (step_with (step_of l).each) (same_number (step_of l).scale (step_of m).scale tests.1) in
    item_exact m (number_of p)
    ∙ ap (λ k. item_with k (step_of m) (number_of p)) kinds
    ∙ ap (λ s. item_with (kind_of l) s (number_of p)) one
    ∙ sym (item_exact l (number_of p))
same_exact l m (value.Utf8 bs) h = refl
same_exact l m (value.Binary bs) h = refl

pub same_items : (k l : Cells) (v : ScalarValue) → are_same_cells k l ≡ true → item_of l v ≡ item_of k v
same_items Values Values v h = refl
same_items Values (Exact t) v h = same_exact None (Some t) v h
same_items Values (Floats t m) v h = cc
same_items (Exact t) Values v h = same_exact (Some t) None v h
same_items (Exact t) (Exact u) v h = same_exact (Some t) (Some u) v h
same_items (Exact t) (Floats u m) v h = cc
same_items (Floats t m) l v h = cc

-- two columns of cells that compare as their numbers
pub cells_compared : (c : Comparison) (k l : Cells) (a b : Option ScalarValue) (t : DType) → are_same_cells k l ≡ true → is_optional_value a (as_nullable t) ≡ true → is_optional_value b (as_nullable t) ≡ true
    → applied (operator_of c) a b ≡ compared c (option_map (item_of k) a) (option_map (item_of k) b)
cells_compared c Values l a b t same h j = optional_compared c None a b t h j
cells_compared c (Exact u) l a b t same h j = optional_compared c (Some u) a b t h j
cells_compared c (Floats u m) l a b t same h j = cc

-- ---- operands changed about

flipped_holds : (c : Comparison) (o : Ordering) → holds (operator_of (flipped c)) o ≡ holds (operator_of c) (ordering_reverse o)
flipped_holds comparison.Eq Less = refl
flipped_holds comparison.Eq Equal = refl
flipped_holds comparison.Eq Greater = refl
flipped_holds comparison.NotEq Less = refl
flipped_holds comparison.NotEq Equal = refl
flipped_holds comparison.NotEq Greater = refl
flipped_holds comparison.Gt Less = refl
flipped_holds comparison.Gt Equal = refl
flipped_holds comparison.Gt Greater = refl
flipped_holds comparison.Gte Less = refl
flipped_holds comparison.Gte Equal = refl
flipped_holds comparison.Gte Greater = refl
flipped_holds comparison.Lt Less = refl
flipped_holds comparison.Lt Equal = refl
flipped_holds comparison.Lt Greater = refl
flipped_holds comparison.Lte Less = refl
flipped_holds comparison.Lte Equal = refl
flipped_holds comparison.Lte Greater = refl

reversed_twice : (o : Ordering) → ordering_reverse (ordering_reverse o) ≡ o
reversed_twice Less = refl
reversed_twice Equal = refl
reversed_twice Greater = refl

turned : (c : Comparison) {K : Type 0} (R : K → K → Ordering) → IsTotalOrder R → (x y : K) → option_map (holds (operator_of (flipped c))) (Some (R y x)) ≡ option_map (holds (operator_of c)) (Some (R x y))
turned c R total x y = ap Some (flipped_holds c (R y x) ∙ ap (holds (operator_of c)) (sym (total.antisymm x y)))

fit_turned : (k l : ExactKind) → kind_fit l k ≡ kind_fit k l
fit_turned Number Number = refl
fit_turned Number Clock = refl
fit_turned Number Instant = refl
fit_turned Number TimeOfDay = refl
fit_turned Clock Number = refl
fit_turned Clock Clock = refl
fit_turned Clock Instant = refl
fit_turned Clock TimeOfDay = refl
fit_turned Instant Number = refl
fit_turned Instant Clock = refl
fit_turned Instant Instant = refl
fit_turned Instant TimeOfDay = refl
fit_turned TimeOfDay Number = refl
fit_turned TimeOfDay Clock = refl
fit_turned TimeOfDay Instant = refl
fit_turned TimeOfDay TimeOfDay = refl

exact_turned : (c : Comparison) (w : KindFit) (a b : Fraction) → option_map (holds (operator_of (flipped c))) (exact_cmp w b a) ≡ option_map (holds (operator_of c)) (exact_cmp w a b)
exact_turned c Same a b = turned c int_cmp int_cmp_total (a.top *ℤ pos b.under) (b.top *ℤ pos a.under)
exact_turned c ByZone a b = refl
exact_turned c Other a b = refl

flipped_twice : (c : Comparison) → flipped (flipped c) ≡ c
flipped_twice comparison.Eq = refl
flipped_twice comparison.NotEq = refl
flipped_twice comparison.Gt = refl
flipped_twice comparison.Gte = refl
flipped_twice comparison.Lt = refl
flipped_twice comparison.Lte = refl

pub items_flipped : (c : Comparison) (x y : Item) → compared (flipped c) (Some y) (Some x) ≡ compared c (Some x) (Some y)
items_flipped c (truth a) (truth b) = turned c int_cmp int_cmp_total (rank a) (rank b)
items_flipped c (exact k a) (exact l b) =
    ap (λ w. option_map (holds (operator_of (flipped c))) (exact_cmp w b a)) (fit_turned k l) ∙ exact_turned c (kind_fit k l) a b
items_flipped c (text a) (text b) = turned c (slice_cmp nat_cmp) nat_list_cmp_total a b
items_flipped c (binary a) (binary b) = turned c (slice_cmp nat_cmp) nat_list_cmp_total a b
items_flipped c (float t m a) (bits b) = ap (λ d. Some (float_holds (meant m) t d a b)) (flipped_twice c)
items_flipped c (bits a) (float t m b) = refl
items_flipped c (truth a) (exact l b) = refl
items_flipped c (truth a) (float t m b) = refl
items_flipped c (truth a) (bits b) = refl
items_flipped c (truth a) (text b) = refl
items_flipped c (truth a) (binary b) = refl
items_flipped c (exact k a) (truth b) = refl
items_flipped c (exact k a) (float t m b) = refl
items_flipped c (exact k a) (bits b) = refl
items_flipped c (exact k a) (text b) = refl
items_flipped c (exact k a) (binary b) = refl
items_flipped c (float t m a) (truth b) = refl
items_flipped c (float t m a) (exact l b) = refl
items_flipped c (float t m a) (float u n b) = refl
items_flipped c (float t m a) (text b) = refl
items_flipped c (float t m a) (binary b) = refl
items_flipped c (bits a) (truth b) = refl
items_flipped c (bits a) (exact l b) = refl
items_flipped c (bits a) (bits b) = refl
items_flipped c (bits a) (text b) = refl
items_flipped c (bits a) (binary b) = refl
items_flipped c (text a) (truth b) = refl
items_flipped c (text a) (exact l b) = refl
items_flipped c (text a) (float t m b) = refl
items_flipped c (text a) (bits b) = refl
items_flipped c (text a) (binary b) = refl
items_flipped c (binary a) (truth b) = refl
items_flipped c (binary a) (exact l b) = refl
items_flipped c (binary a) (float t m b) = refl
items_flipped c (binary a) (bits b) = refl
items_flipped c (binary a) (text b) = refl

pub flipped_compared : (c : Comparison) (x y : Option Item) → compared (flipped c) y x ≡ compared c x y
flipped_compared c (Some x) (Some y) = items_flipped c x y
flipped_compared c None (Some y) = refl
flipped_compared c None None = refl
flipped_compared c (Some x) None = refl

-- ---- numbers of a type

from_index : ℕ → PType
from_index zero = ptype.U8
from_index (suc zero) = ptype.U16
from_index (suc (suc zero)) = ptype.U32
from_index (suc (suc (suc zero))) = ptype.U64
from_index (suc (suc (suc (suc zero)))) = ptype.I8
from_index (suc (suc (suc (suc (suc zero))))) = ptype.I16
from_index (suc (suc (suc (suc (suc (suc zero)))))) = ptype.I32
from_index n = ptype.I64

indexed : (p : PType) → from_index (ptype_index p) ≡ p
unfolding from_index
indexed ptype.U8 = refl
indexed ptype.U16 = refl
indexed ptype.U32 = refl
indexed ptype.U64 = refl
indexed ptype.I8 = refl
indexed ptype.I16 = refl
indexed ptype.I32 = refl
indexed ptype.I64 = refl

same_ptype : (p q : PType) → ptype_index p ≡ ptype_index q → p ≡ q
same_ptype p q h = sym (indexed p) ∙ ap from_index h ∙ indexed q

abbrev within : PType → ℤ → Bool
within q z = int_le (least q) z && int_le z (greatest q)

sized_is : (q : PType) (z : ℤ) → within q z ≡ true → number_of (sized q z) ≡ z
sized_is ptype.U8 (pos n) h = refl
sized_is ptype.U8 (negsuc n) h = cc
sized_is ptype.U16 (pos n) h = refl
sized_is ptype.U16 (negsuc n) h = cc
sized_is ptype.U32 (pos n) h = refl
sized_is ptype.U32 (negsuc n) h = cc
sized_is ptype.U64 (pos n) h = refl
sized_is ptype.U64 (negsuc n) h = cc
sized_is ptype.I8 z h = refl
sized_is ptype.I16 z h = refl
sized_is ptype.I32 z h = refl
sized_is ptype.I64 z h = refl

sized_type : (q : PType) (z : ℤ) → ptype_of (sized q z) ≡ q
sized_type ptype.U8 z = refl
sized_type ptype.U16 z = refl
sized_type ptype.U32 z = refl
sized_type ptype.U64 z = refl
sized_type ptype.I8 z = refl
sized_type ptype.I16 z = refl
sized_type ptype.I32 z = refl
sized_type ptype.I64 z = refl

-- ---- a column of numbers with a literal

within_is : (q : PType) (z : ℤ) → IsIn (range_of q) z → within q z ≡ true
within_is q z h = ap (λ b. b && int_le z (greatest q)) (le_is_true (least q) z h.0) ∙ le_is_true z (greatest q) h.1

is_within : (q : PType) (z : ℤ) → within q z ≡ true → IsIn (range_of q) z
is_within q z h = let b = both_true _ _ h in (le_true (least q) z b.0, le_true z (greatest q) b.1)

sized_in-is : (q : PType) (z : ℤ) → IsIn (range_of q) z → sized_in q z ≡ sized q z
sized_in-is q z h = ap (λ b. unwrap_or (if b then Some (sized q z) else None) (least_of q)) (within_is q z h)

ascends : (q : PType) → least q ≤ℤ greatest q
ascends ptype.U8 = omega (arith, ints)
ascends ptype.U16 = omega (arith, ints)
ascends ptype.U32 = omega (arith, ints)
ascends ptype.U64 = omega (arith, ints)
ascends ptype.I8 = omega (arith, ints)
ascends ptype.I16 = omega (arith, ints)
ascends ptype.I32 = omega (arith, ints)
ascends ptype.I64 = omega (arith, ints)

abbrev IsOf64Bits : ℤ → Type 0
IsOf64Bits n = (negsuc 18_446_744_073_709_551_615 ≤ℤ n) × (n ≤ℤ pos 18_446_744_073_709_551_615)

of_64_bits : (q : PType) (n : ℤ) → IsIn (range_of q) n → IsOf64Bits n
of_64_bits ptype.U8 n h = (omega (arith, ints), omega (arith, ints))
of_64_bits ptype.U16 n h = (omega (arith, ints), omega (arith, ints))
of_64_bits ptype.U32 n h = (omega (arith, ints), omega (arith, ints))
of_64_bits ptype.U64 n h = (omega (arith, ints), omega (arith, ints))
of_64_bits ptype.I8 n h = (omega (arith, ints), omega (arith, ints))
of_64_bits ptype.I16 n h = (omega (arith, ints), omega (arith, ints))
of_64_bits ptype.I32 n h = (omega (arith, ints), omega (arith, ints))
of_64_bits ptype.I64 n h = (omega (arith, ints), omega (arith, ints))

short_days : (n : ℤ) → IsOf64Bits n → IsShort (n *ℤ pos 86_400)
short_days n h =
    let l = product_le (negsuc 18_446_744_073_709_551_615) n 86_400 h.0 in
    let g = product_le n (pos 18_446_744_073_709_551_615) 86_400 h.1 in
    (omega (arith, ints), omega (arith, ints))

short_once : (n : ℤ) → IsOf64Bits n → IsShort (n *ℤ pos 1)
short_once n h = let P : ℤ → Type 0 = IsShort in subst P (sym (product_once n)) (omega (arith, ints), omega (arith, ints))

short_number : (l : Option LogicalType) (n : ℤ) → IsOf64Bits n → IsShort (n *ℤ pos (step_of l).each)
short_number None n h = short_once n h
short_number (Some Date) n h = short_days n h
short_number (Some (Time u)) n h = short_once n h
short_number (Some (Timestamp u)) n h = short_once n h
short_number (Some (TimestampTz u)) n h = short_once n h
short_number (Some (Decimal d)) n h = short_once n h

-- a comparison of expressions holds as one of columns
same_holds : (c : Comparison) (o : Ordering) → holds (operator_of c) o ≡ logical.holds c o
same_holds comparison.Eq Less = refl
same_holds comparison.Eq Equal = refl
same_holds comparison.Eq Greater = refl
same_holds comparison.NotEq Less = refl
same_holds comparison.NotEq Equal = refl
same_holds comparison.NotEq Greater = refl
same_holds comparison.Gt Less = refl
same_holds comparison.Gt Equal = refl
same_holds comparison.Gt Greater = refl
same_holds comparison.Gte Less = refl
same_holds comparison.Gte Equal = refl
same_holds comparison.Gte Greater = refl
same_holds comparison.Lt Less = refl
same_holds comparison.Lt Equal = refl
same_holds comparison.Lt Greater = refl
same_holds comparison.Lte Less = refl
same_holds comparison.Lte Equal = refl
same_holds comparison.Lte Greater = refl

-- a number of the type passes the test as its value the comparison
tested : (c : Comparison) (l : Option LogicalType) (q : PType) (top : ℤ) (scale : ℕ) (m : PValue) → ptype_of m ≡ q → IsIn (range_of q) (number_of m)
    → let r = lowered c (place_of (step_of l) top scale) (range_of q) in
    holds (operator_of r.comparison) (value_cmp (value.Primitive m) (value.Primitive (sized_in q r.number))) ≡ holds (operator_of c) (fraction_cmp (steps (step_of l) (number_of m)) (over top scale))
tested c l q top scale m type range =
    let s = step_of l in
    let r = lowered c (place_of s top scale) (range_of q) in
    let inside : IsIn (range_of q) r.number = lowered_in c (place_of s top scale) (range_of q) (ascends q) in
    let same : ptype_index (ptype_of m) ≡ ptype_index (ptype_of (sized q r.number)) = ap ptype_index (type ∙ sym (sized_type q r.number)) in
    ap (λ x. holds (operator_of r.comparison) (value_cmp (value.Primitive m) (value.Primitive x))) (sized_in-is q r.number inside)
    ∙ ap (holds (operator_of r.comparison)) (numbers_cmp m (sized q r.number) same ∙ ap (int_cmp (number_of m)) (sized_is q r.number (within_is q r.number inside)))
    ∙ same_holds r.comparison (int_cmp (number_of m) r.number)
    ∙ sym (compare_is s top scale c (range_of q) (number_of m) (each_positive l) range (short_number l (number_of m) (of_64_bits q (number_of m) range)))
    ∙ sym (same_holds c (fraction_cmp (steps s (number_of m)) (over top scale)))

exact_with : (c : Comparison) (l : Option LogicalType) (n : ℤ) (x : ExactNumber) → item_holds c (number_item (cells_of l) n) (exact_item x) ≡ option_map (holds (operator_of c)) (exact_cmp (kind_fit (kind_of l) x.kind) (steps (step_of l) n) (over x.top x.scale))
exact_with c None n x = refl
exact_with c (Some t) n x = refl

number_tested : (c : Comparison) (l : Option LogicalType) (q : PType) (x : ExactNumber) (m : PValue) → kind_fit (kind_of l) x.kind ≡ Same → ((ptype_index (ptype_of m) == ptype_index q) && in_range m) ≡ true
    → let r = lowered c (place_of (step_of l) x.top x.scale) (range_of q) in
    option_map (holds (operator_of r.comparison)) (Some (value_cmp (value.Primitive m) (value.Primitive (sized_in q r.number)))) ≡ compared c (Some (item_of (cells_of l) (value.Primitive m))) (Some (exact_item x))
number_tested c l q x m fit h =
    let both = both_true _ _ h in
    let type : ptype_of m ≡ q = same_ptype _ _ (same_index _ _ (ptype_index q) both.0 (equal_itself (ptype_index q))) in
    let range : within q (number_of m) ≡ true = subst (λ (p : PType). within p (number_of m) ≡ true) type both.1 in
    let a = steps (step_of l) (number_of m) in
    let b = over x.top x.scale in
    ap Some (tested c l q x.top x.scale m type (is_within q (number_of m) range))
    ∙ ap (λ w. option_map (holds (operator_of c)) (exact_cmp w a b)) (sym fit)
    ∙ sym (exact_with c l (number_of m) x)

-- a column of numbers with a literal number of what its cells count
pub exact_compared : (c : Comparison) (l : Option LogicalType) (q : PType) (n : Nullability) (x : ExactNumber) (v : Option ScalarValue) → kind_fit (kind_of l) x.kind ≡ Same → is_optional_value v (dtype.Primitive q n) ≡ true
    → let r = lowered c (place_of (step_of l) x.top x.scale) (range_of q) in
    applied (operator_of r.comparison) v (Some (value.Primitive (sized_in q r.number))) ≡ compared c (option_map (item_of (cells_of l)) v) (Some (exact_item x))
exact_compared c l q n x None fit h =
    let r = lowered c (place_of (step_of l) x.top x.scale) (range_of q) in
    applied-compared r.comparison None (Some (value.Primitive (sized_in q r.number)))
exact_compared c l q n x (Some (value.Primitive m)) fit h =
    let r = lowered c (place_of (step_of l) x.top x.scale) (range_of q) in
    applied-compared r.comparison (Some (value.Primitive m)) (Some (value.Primitive (sized_in q r.number))) ∙ number_tested c l q x m fit h
exact_compared c l q n x (Some v) fit h = cc

-- a column of texts with a text
pub text_compared : (c : Comparison) (l : Cells) (n : Nullability) (bs : List ℕ) (v : Option ScalarValue) → is_optional_value v (dtype.Utf8 n) ≡ true
    → applied (operator_of c) v (Some (value.Utf8 bs)) ≡ compared c (option_map (item_of l) v) (Some (text bs))
text_compared c l n bs None h = applied-compared c None (Some (value.Utf8 bs))
text_compared c l n bs (Some (value.Utf8 a)) h = applied-compared c (Some (value.Utf8 a)) (Some (value.Utf8 bs))
text_compared c l n bs (Some v) h = cc

-- of bytes with bytes
pub binary_compared : (c : Comparison) (l : Cells) (n : Nullability) (bs : List ℕ) (v : Option ScalarValue) → is_optional_value v (dtype.Binary n) ≡ true
    → applied (operator_of c) v (Some (value.Binary bs)) ≡ compared c (option_map (item_of l) v) (Some (binary bs))
binary_compared c l n bs None h = applied-compared c None (Some (value.Binary bs))
binary_compared c l n bs (Some (value.Binary a)) h = applied-compared c (Some (value.Binary a)) (Some (value.Binary bs))
binary_compared c l n bs (Some v) h = cc

-- of truths with a truth
pub truth_compared : (c : Comparison) (l : Cells) (n : Nullability) (b : Bool) (v : Option ScalarValue) → is_optional_value v (dtype.Bool n) ≡ true
    → applied (operator_of c) v (Some (value.Bool b)) ≡ compared c (option_map (item_of l) v) (Some (truth b))
truth_compared c l n b None h = applied-compared c None (Some (value.Bool b))
truth_compared c l n b (Some (value.Bool a)) h =
    applied-compared c (Some (value.Bool a)) (Some (value.Bool b)) ∙ ap (option_map (holds (operator_of c))) (sym (bools_cmp a b))
truth_compared c l n b (Some v) h = cc

-- ---- a column of floats with a float

-- the truth of a test of the whole number of a cell
abbrev pub cell_truth : Comparison → ℤ → Option ScalarValue → Option Bool
cell_truth d k (Some (value.Primitive m)) = Some (test_holds (number_of m) (record { comparison = d; number = k }))
cell_truth d k v = None

abbrev some_number : PValue → Option PValue
some_number x = Some x

sized_if : (q : PType) (k : ℤ) (b : Bool) (x : PValue) → (if b then some_number (sized q k) else None) ≡ some_number x → (b ≡ true) × (sized q k ≡ x)
sized_if q k true x h = (refl, cc)
sized_if q k false x h = cc

pub number_compared : (d : Comparison) (q : PType) (z : Nullability) (k : ℤ) (x : PValue) (v : Option ScalarValue) → in_type q k ≡ Some x → is_optional_value v (dtype.Primitive q z) ≡ true
    → applied (operator_of d) v (Some (value.Primitive x)) ≡ cell_truth d k v
number_compared d q z k x None is h = applied-compared d None (Some (value.Primitive x))
number_compared d q z k x (Some (value.Primitive m)) is h =
    let sizes = sized_if q k (within q k) x is in
    let type : ptype_of m ≡ q = same_ptype _ _ (same_index _ _ (ptype_index q) (both_true _ _ h).0 (equal_itself (ptype_index q))) in
    let same : ptype_index (ptype_of m) ≡ ptype_index (ptype_of (sized q k)) = ap ptype_index (type ∙ sym (sized_type q k)) in
    applied-compared d (Some (value.Primitive m)) (Some (value.Primitive x))
    ∙ ap (λ (y : PValue). Some (holds (operator_of d) (value_cmp (value.Primitive m) (value.Primitive y)))) (sym sizes.1)
    ∙ ap (λ o. Some (holds (operator_of d) o)) (numbers_cmp m (sized q k) same ∙ ap (int_cmp (number_of m)) (sized_is q k sizes.0))
    ∙ ap Some (same_holds d (int_cmp (number_of m) k))
number_compared d q z k x (Some v) is h = cc

lt_is_true : (n k : ℤ) → n <ℤ k → int_lt n k ≡ true
lt_is_true n k h = grind (arith, ints)

lt_is_false : (n k : ℤ) → k ≤ℤ n → int_lt n k ≡ false
lt_is_false n k h = grind (arith, ints)

below_is_less : (n k : ℤ) → test_holds n (record { comparison = comparison.Lt; number = k }) ≡ int_lt n k
below_is_less n k = cases_int n k
    (λ l. ap (logical.holds comparison.Lt) (is_less n k l) ∙ sym (lt_is_true n k l))
    (λ e. ap (logical.holds comparison.Lt) (is_equal n k e) ∙ sym (lt_is_false n k (omega (arith, ints, e))))
    (λ g. ap (logical.holds comparison.Lt) (is_greater n k g) ∙ sym (lt_is_false n k (omega (arith, ints, g))))

both_hold : (a b : Bool) → both (Some a) (Some b) ≡ Some (a && b)
both_hold true true = refl
both_hold true false = refl
both_hold false true = refl
both_hold false false = refl

without_bound : (a : Bool) → a ≡ (a && true)
without_bound true = refl
without_bound false = refl

-- the truth of a test of floats
abbrev pub bounded_truth : Option ℤ → Option Bool → Option ScalarValue → Option Bool
bounded_truth None a v = a
bounded_truth (Some k) a v = both a (cell_truth comparison.Lt k v)

abbrev pub float_truth : FloatTest → Option ScalarValue → Option Bool
float_truth x v = bounded_truth x.below (cell_truth x.test.comparison x.test.number v) v

bounded : (below : Option ℤ) (a : Bool) (m : PValue) → bounded_truth below (Some a) (Some (value.Primitive m)) ≡ Some (a && below_holds (number_of m) below)
bounded None a m = ap Some (without_bound a)
bounded (Some k) a m = ap (λ b. both (Some a) (Some b)) (below_is_less (number_of m) k) ∙ both_hold a (int_lt (number_of m) k)

meant_is_allowed : (m : Option NanMeaning) → Allows m (meant m)
meant_is_allowed None = tt
meant_is_allowed (Some w) = refl

no_truth : (below : Option ℤ) → bounded_truth below None None ≡ None
no_truth None = refl
no_truth (Some k) = refl

-- a test that says what the comparison with a float does, under each meaning of NaN that is allowed
pub float_compared : (c : Comparison) (t : FloatType) (w : Option NanMeaning) (q : PType) (z : Nullability) (b : ℕ) (x : FloatTest) (v : Option ScalarValue) → SaysOf t w c b x → is_optional_value v (dtype.Primitive q z) ≡ true
    → float_truth x v ≡ compared c (option_map (item_of (Floats t w)) v) (Some (bits b))
float_compared c t w q z b x None says h = no_truth x.below
float_compared c t w q z b x (Some (value.Primitive m)) says h =
    bounded x.below (test_holds (number_of m) x.test) m ∙ ap Some (sym (says (meant w) (meant_is_allowed w) (number_of m)))
float_compared c t w q z b x (Some v) says h = cc

-- a NaN that isn't spoken of is taken as one above all other numbers
ordered_number : (c : Comparison) (k : Cells) (n : ℤ) (y : Item) → item_holds c (number_item (ordered k) n) y ≡ item_holds c (number_item k n) y
ordered_number c Values n y = refl
ordered_number c (Exact t) n y = refl
ordered_number c (Floats t (Some m)) n y = refl
ordered_number c (Floats t None) n (truth b) = refl
ordered_number c (Floats t None) n (exact l b) = refl
ordered_number c (Floats t None) n (float u m b) = refl
ordered_number c (Floats t None) n (bits b) = refl
ordered_number c (Floats t None) n (text b) = refl
ordered_number c (Floats t None) n (binary b) = refl

ordered_item : (c : Comparison) (k : Cells) (v : ScalarValue) (y : Item) → item_holds c (item_of (ordered k) v) y ≡ item_holds c (item_of k v) y
ordered_item c k (value.Bool b) y = refl
ordered_item c k (value.Primitive p) y = ordered_number c k (number_of p) y
ordered_item c k (value.Utf8 bs) y = refl
ordered_item c k (value.Binary bs) y = refl

pub ordered_compared : (c : Comparison) (k : Cells) (v : Option ScalarValue) (y : Option Item) → compared c (option_map (item_of (ordered k)) v) y ≡ compared c (option_map (item_of k) v) y
ordered_compared c k None y = refl
ordered_compared c k (Some v) None = refl
ordered_compared c k (Some v) (Some y) = ordered_item c k v y

-- ---- types made nullable

is_value-as_nullable : (v : ScalarValue) (t : DType) → is_value v (as_nullable t) ≡ is_value v t
is_value-as_nullable (value.Bool b) (dtype.Bool n) = refl
is_value-as_nullable (value.Primitive p) (dtype.Primitive q n) = refl
is_value-as_nullable (value.Utf8 s) (dtype.Utf8 n) = refl
is_value-as_nullable (value.Binary s) (dtype.Binary n) = refl
is_value-as_nullable v t = refl

pub null_fits : (t : DType) → is_nullable (as_nullable t) ≡ true
null_fits dtype.Null = refl
null_fits (dtype.Bool n) = refl
null_fits (dtype.Primitive p n) = refl
null_fits (dtype.Utf8 n) = refl
null_fits (dtype.Binary n) = refl
null_fits (dtype.MinMaxState e n) = refl

pub weakened : (v : Option ScalarValue) (t : DType) → is_optional_value v t ≡ true → is_optional_value v (as_nullable t) ≡ true
weakened None t h = null_fits t
weakened (Some v) t h = is_value-as_nullable v t ∙ h
