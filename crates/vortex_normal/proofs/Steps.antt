-- The parts of a predicate fit what they become.
use Rattle.std.proofs.Common.{◌≡◌, Bool, true, false, not as not_b, ◌&&◌, Result, Ok, Err, IsOk, IsTrue, refl, ap, subst}
use Rattle.std.specs.Prelude.{Some}
use Rattle.std.proofs.lemmas.Bool.{and_parts}
use Rattle.vortex_base.specs.Data.Exact.{both_hold}
use Rattle.vortex_base.specs.Data.Values.{is_value}
use Rattle.vortex_base.specs.declared.scalar_value.ScalarValue.{ScalarValue}
use Rattle.vortex_base.specs.declared.scalar_value.ScalarValue.TheVariants as value
use Rattle.vortex_normal.specs.Intervals.{literal_as, range_of}
use Rattle.vortex_expr.specs.Trees.Between.{to_operator}
use Rattle.vortex_expr.specs.Trees.Tree.{Tree, Place, column, literal, binary, between, not}
use Rattle.vortex_expr.specs.Meanings.Typing.{are_comparable, between_type, binary_type, comparison_type, is_bool, is_state, not_type, type_if, type_of, truth_type, with_type, with_types}
use Rattle.vortex_base.specs.Data.Types.{as_nullable, dtype_eq_is_exact}
use Rattle.vortex_base.specs.declared.dtype.DType.{DType}
use Rattle.vortex_base.specs.declared.dtype.DType.TheVariants as dtype
use Rattle.vortex_base.specs.declared.error.BaseError.{BaseError}
use Rattle.vortex_expr.specs.declared.scalar_fn.BetweenOptions.{BetweenOptions}
use Rattle.vortex_expr.specs.declared.scalar_fn.Operator.{Operator}
use Rattle.vortex_expr.specs.declared.scalar_fn.Operator.TheVariants.{Eq, NotEq, Gt, Gte, Lt, Lte, And, Or}
use Rattle.vortex_rewrite.specs.Rewriting.Predicates.{has_type, is_predicate, is_connective, is_text}
use Rattle.vortex_rewrite.specs.Rewriting.Falsifiers.{bool_literal}
use Rattle.vortex_rewrite.proofs.Rewriting.ProofTypes.{alike_compare, comparable_if, lower_compares, texts_compare, upper_compares}
use Rattle.vortex_normal.specs.Pushed.{opposite_of, operator_as}

typed_has : (test : DType → Bool) (t : Result DType BaseError) → has_type test t ≡ true → IsOk t
typed_has test (Ok t) h = refl
typed_has test (Err f) h = cc

pub typed : (e : Tree Place) → IsTrue (is_predicate e) → IsOk (type_of e)
typed e h = typed_has is_bool (type_of e) h

-- ---- connectives

bool_sides : (o : Operator) (s t : DType) → is_connective o ≡ true → IsOk (binary_type o s t) → (is_bool s ≡ true) × (is_bool t ≡ true)
bool_sides And s t c h = and_parts (is_bool s) (is_bool t) (comparable_if (is_bool s && is_bool t) _ h)
bool_sides Or s t c h = and_parts (is_bool s) (is_bool t) (comparable_if (is_bool s && is_bool t) _ h)
bool_sides Eq s t c h = cc
bool_sides NotEq s t c h = cc
bool_sides Gt s t c h = cc
bool_sides Gte s t c h = cc
bool_sides Lt s t c h = cc
bool_sides Lte s t c h = cc

sides_of : (o : Operator) (a b : Result DType BaseError) → is_connective o ≡ true → IsOk (with_types (binary_type o) a b) → (has_type is_bool a ≡ true) × (has_type is_bool b ≡ true)
sides_of o (Ok s) (Ok t) c h = bool_sides o s t c h
sides_of o (Ok s) (Err f) c h = cc
sides_of o (Err f) b c h = cc

pub sides : (o : Operator) (l r : Tree Place) → is_connective o ≡ true → IsTrue (is_predicate (binary o l r)) → IsTrue (is_predicate l) × IsTrue (is_predicate r)
sides o l r c h = sides_of o (type_of l) (type_of r) c (typed (binary o l r) h)

pub left_side : (e l r : Tree Place) (o : Operator) → e ≡ binary o l r → is_connective o ≡ true → IsTrue (is_predicate e) → IsTrue (is_predicate l)
left_side e l r o is c h = (sides o l r c (subst (λ x. IsTrue (is_predicate x)) is h)).0

pub right_side : (e l r : Tree Place) (o : Operator) → e ≡ binary o l r → is_connective o ≡ true → IsTrue (is_predicate e) → IsTrue (is_predicate r)
right_side e l r o is c h = (sides o l r c (subst (λ x. IsTrue (is_predicate x)) is h)).1

-- ---- NOT

bool_operand : (a : Result DType BaseError) → has_type is_bool (with_type not_type a) ≡ true → has_type is_bool a ≡ true
bool_operand (Ok (dtype.Bool n)) h = refl
bool_operand (Ok dtype.Null) h = cc
bool_operand (Ok (dtype.Primitive p n)) h = cc
bool_operand (Ok (dtype.Utf8 n)) h = cc
bool_operand (Ok (dtype.Binary n)) h = cc
bool_operand (Ok (dtype.MinMaxState e n)) h = cc
bool_operand (Err f) h = cc

pub operand : (e x : Tree Place) → e ≡ not x → IsTrue (is_predicate e) → IsTrue (is_predicate x)
operand e x is h = bool_operand (type_of x) (subst (λ y. IsTrue (is_predicate y)) is h)

negated : (a : Result DType BaseError) → has_type is_bool a ≡ true → has_type is_bool (with_type not_type a) ≡ true
negated (Ok (dtype.Bool n)) h = refl
negated (Ok dtype.Null) h = cc
negated (Ok (dtype.Primitive p n)) h = cc
negated (Ok (dtype.Utf8 n)) h = cc
negated (Ok (dtype.Binary n)) h = cc
negated (Ok (dtype.MinMaxState e n)) h = cc
negated (Err f) h = cc

pub negated_predicate : (x : Tree Place) → is_predicate x ≡ true → is_predicate (not x) ≡ true
negated_predicate x h = negated (type_of x) h

-- ---- comparisons

turned_type : (o : Operator) (a b : Result DType BaseError) → IsOk (with_types (binary_type o) a b) → IsOk (with_types (binary_type (opposite_of o)) a b)
turned_type Eq a b h = h
turned_type NotEq a b h = h
turned_type Gt a b h = h
turned_type Gte a b h = h
turned_type Lt a b h = h
turned_type Lte a b h = h
turned_type And a b h = h
turned_type Or a b h = h

pub operator_fits : (w : Bool) (o : Operator) (l r : Tree Place) → IsOk (type_of (binary o l r)) → IsOk (type_of (binary (operator_as w o) l r))
operator_fits true o l r h = h
operator_fits false o l r h = turned_type o (type_of l) (type_of r) h

pub compares : (e l r : Tree Place) (w : Bool) (o : Operator) (op : Operator) → e ≡ binary o l r → op ≡ operator_as w o → IsTrue (is_predicate e) → IsOk (type_of (binary op l r))
compares e l r w o op is same h = rw same (operator_fits w o l r (typed (binary o l r) (subst (λ x. IsTrue (is_predicate x)) is h)))

pub lower_fits : (w : Bool) (o : BetweenOptions) (x l u : Tree Place) (op to : Operator) → to ≡ to_operator o.lower_strict → op ≡ operator_as w to → IsOk (type_of (between o x l u)) → IsOk (type_of (binary op l x))
lower_fits w o x l u op to e f h = rw f (operator_fits w to l x (lower_compares o x l u to l x e refl refl h))

pub upper_fits : (w : Bool) (o : BetweenOptions) (x l u : Tree Place) (op to : Operator) → to ≡ to_operator o.upper_strict → op ≡ operator_as w to → IsOk (type_of (between o x l u)) → IsOk (type_of (binary op x u))
upper_fits w o x l u op to e f h = rw f (operator_fits w to x u (upper_compares o x l u to x u e refl refl h))

truth_compares : (t : DType) → is_bool t ≡ true → IsOk (with_types comparison_type (Ok t) (type_of (bool_literal true)))
truth_compares (dtype.Bool n) h = refl
truth_compares dtype.Null h = cc
truth_compares (dtype.Primitive p n) h = cc
truth_compares (dtype.Utf8 n) h = cc
truth_compares (dtype.Binary n) h = cc
truth_compares (dtype.MinMaxState e n) h = cc

-- a column of type Bool may be compared with a truth
pub column_compares : (e x t : Tree Place) (p : Place) (w : Bool) → e ≡ column p → x ≡ e → t ≡ bool_literal w → IsTrue (is_predicate e) → IsOk (type_of (binary Eq x t))
column_compares e x t p w is same truth h =
    rw (same, truth, is) (truth_compares p.dtype (subst (λ y. IsTrue (is_predicate y)) is h))

-- ---- a column and values of its type

not_state : (v : ScalarValue) (t : DType) → is_value v t ≡ true → is_state t ≡ false
not_state v dtype.Null h = refl
not_state v (dtype.Bool n) h = refl
not_state v (dtype.Primitive p n) h = refl
not_state v (dtype.Utf8 n) h = refl
not_state v (dtype.Binary n) h = refl
not_state (value.Bool b) (dtype.MinMaxState e n) h = cc
not_state (value.Primitive p) (dtype.MinMaxState e n) h = cc
not_state (value.Utf8 bs) (dtype.MinMaxState e n) h = cc
not_state (value.Binary bs) (dtype.MinMaxState e n) h = cc

literal_type : (t : DType) (v : ScalarValue) → is_value v t ≡ true → type_of (literal (record { dtype = t; value = Some v })) ≡ Ok t
literal_type t v h = rw h refl

-- a column may be compared with a value of its type
pub value_compares : (o : Operator) (c : Place) (v : ScalarValue) → is_connective o ≡ false → is_value v c.dtype ≡ true → IsOk (type_of (binary o (column c) (literal_as c v)))
value_compares o c v k h =
    alike_compare o (column c) (literal_as c v) k (record {
      left_type = c.dtype;
      right_type = c.dtype;
      left = refl;
      right = literal_type c.dtype v h;
      same = refl;
      value = not_state v c.dtype h;
    })

pub value_fits : (o : Operator) (c : Place) (v : ScalarValue) (x l : Tree Place) → x ≡ column c → l ≡ literal_as c v → is_connective o ≡ false → is_value v c.dtype ≡ true → IsOk (type_of (binary o x l))
value_fits o c v x l e f k h = rw (e, f) (value_compares o c v k h)

with_itself : (v : ScalarValue) (t : DType) → is_value v t ≡ true → are_comparable t t ≡ true
with_itself v t h = both_hold _ _ ((dtype_eq_is_exact (as_nullable t) (as_nullable t)).1 refl) (ap not_b (not_state v t h))

three_typed : (t : DType) (a b : Result DType BaseError) → a ≡ Ok t → b ≡ Ok t → are_comparable t t ≡ true → has_type is_bool (with_type (λ s. with_types (between_type s) a b) (Ok t)) ≡ true
three_typed t a b e f h = rw (e, f, h) refl

-- and lie between two
pub range_is_predicate : (o : BetweenOptions) (c : Place) (l u : ScalarValue) → is_value l c.dtype ≡ true → is_value u c.dtype ≡ true → is_predicate (range_of c o l u) ≡ true
range_is_predicate o c l u h k = three_typed c.dtype (type_of (literal_as c l)) (type_of (literal_as c u)) (literal_type c.dtype l h) (literal_type c.dtype u k) (with_itself l c.dtype h)

pub range_fits : (o : BetweenOptions) (c : Place) (l u : ScalarValue) (x y z : Tree Place) → x ≡ column c → y ≡ literal_as c l → z ≡ literal_as c u → is_value l c.dtype ≡ true → is_value u c.dtype ≡ true → IsOk (type_of (between o x y z))
range_fits o c l u x y z e f g h k = rw (e, f, g) (typed (range_of c o l u) (range_is_predicate o c l u h k))

range_bool : (t : DType) (a b : Result DType BaseError) → IsOk (with_types (between_type t) a b) → has_type is_bool (with_types (between_type t) a b) ≡ true
range_bool t (Ok l) (Ok u) h = only_bool _ _ h
  where
    only_bool : (b n : Bool) → IsOk (type_if b (truth_type n)) → has_type is_bool (type_if b (truth_type n)) ≡ true
    only_bool true n h = refl
    only_bool false n h = cc
range_bool t (Ok l) (Err f) h = cc
range_bool t (Err f) b h = cc

range_typed : (x : Result DType BaseError) (a b : Result DType BaseError) → IsOk (with_type (λ s. with_types (between_type s) a b) x) → has_type is_bool (with_type (λ s. with_types (between_type s) a b) x) ≡ true
range_typed (Ok t) a b h = range_bool t a b h
range_typed (Err f) a b h = cc

pub between_is_predicate : (o : BetweenOptions) (x l u : Tree Place) → IsOk (type_of (between o x l u)) → IsTrue (is_predicate (between o x l u))
between_is_predicate o x l u h = range_typed (type_of x) (type_of l) (type_of u) h

-- ---- texts

text_compares_by : (o : Operator) (x y : Tree Place) → is_connective o ≡ false → IsTrue (is_text x) → IsTrue (is_text y) → IsOk (type_of (binary o x y))
text_compares_by And x y k g h = cc
text_compares_by Or x y k g h = cc
text_compares_by Eq x y k g h = texts_compare x y g h
text_compares_by NotEq x y k g h = texts_compare x y g h
text_compares_by Gt x y k g h = texts_compare x y g h
text_compares_by Gte x y k g h = texts_compare x y g h
text_compares_by Lt x y k g h = texts_compare x y g h
text_compares_by Lte x y k g h = texts_compare x y g h

-- two texts may be compared, as is wanted
pub text_compares : (w : Bool) (o op : Operator) (x y : Tree Place) → is_connective o ≡ false → op ≡ operator_as w o → IsTrue (is_text x) → IsTrue (is_text y) → IsOk (type_of (binary op x y))
text_compares w o op x y k same g h = rw same (operator_fits w o x y (text_compares_by o x y k g h))
