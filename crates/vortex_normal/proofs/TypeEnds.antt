-- What a comparison with a value at an end of a type is of each value of the type, and what its forms say.
use Rattle.std.proofs.Common.{◌≡◌, ◌⊎◌, inl, inr, ℕ, Bool, true, false, not as not_b, ◌&&◌, List, [], ◌∷◌, Option, Some, None, refl, sym, ap, ◌∙◌, arith, length, option_map, if◌then◌else◌}
use Rattle.std.specs.Prelude.{◌==◌, ◌<◌, ◌^◌, ℤ, int_le, int_lt, is_none}
use Rattle.std.proofs.lemmas.Bool.{and_parts, eqb-true}
use Rattle.std.proofs.lemmas.Int.{ints}
use Rattle.std.proofs.lemmas.Option.{none-some, same_Some}
use Rattle.vortex_base.specs.Data.Columns.{IsRow}
use Rattle.vortex_base.specs.Data.Scalars.{Constant, is_optional_value}
use Rattle.vortex_base.specs.Data.Types.{as_nullable, ptype_index}
use Rattle.vortex_base.specs.Data.Values.{greatest, in_range, is_value, kind_index, least, number_of, ptype_of}
use Rattle.vortex_base.specs.declared.dtype.DType.{DType}
use Rattle.vortex_base.specs.declared.dtype.DType.TheVariants as dtype
use Rattle.vortex_base.specs.declared.pvalue.PValue.{PValue}
use Rattle.vortex_base.specs.declared.types.PType.{PType}
use Rattle.vortex_base.specs.declared.types.PType.TheVariants as ptype
use Rattle.vortex_base.specs.declared.scalar_value.ScalarValue.{ScalarValue}
use Rattle.vortex_base.specs.declared.scalar_value.ScalarValue.TheVariants as value
use Rattle.vortex_expr.proofs.Meanings.MeaningFits.{meaning-fits}
use Rattle.vortex_expr.specs.Meanings.Fitting.{fits_row}
use Rattle.vortex_expr.specs.Meanings.Meaning.{compared, is_true, meaning, satisfies, truth_value}
use Rattle.vortex_expr.specs.Meanings.RowTest.{is_wanted}
use Rattle.vortex_expr.specs.Trees.Tree.{Tree, Place, column, literal, binary, is_not_null, not}
use Rattle.vortex_expr.specs.declared.scalar_fn.Operator.{Operator}
use Rattle.vortex_expr.specs.declared.scalar_fn.Operator.TheVariants.{Eq, NotEq, Gt, Gte, Lt, Lte, And, Or}
use Rattle.vortex_rewrite.proofs.Rewriting.ProofTypes.{AreComparable}
use Rattle.vortex_rewrite.proofs.Soundness.NumberEnds.{SameType, at_least, at_greatest, number_le}
use Rattle.vortex_rewrite.proofs.Soundness.ValueTests.{by_le, holds_by_le, value_le}
use Rattle.vortex_rewrite.specs.Rewriting.Falsifiers.{bool_literal}
use Rattle.vortex_normal.specs.Ends.{at_value, by_end, by_ends, by_value, each_value, ended, from_above, from_below, in_order, is_greatest, is_least, is_the_truth, of_truths, of_type, unless_known}

pub none_if : {A : Type 0} (b : Bool) (x : A) → is_none (if b then Some x else None) ≡ not_b b
none_if true x = refl
none_if false x = refl

-- ---- the cases of what a comparison becomes

module _ (P : Tree Place → Type 0) where
  module _ (c : Place) (never : P (bool_literal false)) (some : P (is_not_null (column c))) (one : (b : Bool) → P (is_the_truth c b)) where
    each_as : (k : Option Bool) (e : Tree Place) → P e → P (unless_known (option_map (each_value c) k) e)
    each_as None e h = h
    each_as (Some true) e h = some
    each_as (Some false) e h = never

    truths_as : (f t : Bool) → P (of_truths c f t)
    truths_as false false = never
    truths_as true false = one false
    truths_as false true = one true
    truths_as true true = some

    typed_as : (d : DType) (f t : Bool) (e : Tree Place) → P e → P (unless_known (of_type c d f t) e)
    typed_as (dtype.Bool n) f t e h = truths_as f t
    typed_as dtype.Null f t e h = h
    typed_as (dtype.Primitive p n) f t e h = h
    typed_as (dtype.Utf8 n) f t e h = h
    typed_as (dtype.Binary n) f t e h = h
    typed_as (dtype.MinMaxState s n) f t e h = h

    value_as : (first : Bool) (o : Operator) (v : Option ScalarValue) (e : Tree Place) → P e → P (unless_known (at_value c first o v) e)
    value_as first o None e h = h
    value_as first o (Some (value.Bool b)) e h = typed_as c.dtype (in_order first o (value.Bool false) (value.Bool b)) (in_order first o (value.Bool true) (value.Bool b)) e h
    value_as first o (Some (value.Primitive p)) e h = each_as (by_end first o (value.Primitive p)) e h
    value_as first o (Some (value.Utf8 bs)) e h = each_as (by_end first o (value.Utf8 bs)) e h
    value_as first o (Some (value.Binary bs)) e h = each_as (by_end first o (value.Binary bs)) e h

  by_value_as : (o : Operator) (l r : Tree Place) → P (bool_literal false) → ((c : Place) → (l ≡ column c) ⊎ (r ≡ column c) → P (is_not_null (column c)))
      → ((c : Place) → (l ≡ column c) ⊎ (r ≡ column c) → (b : Bool) → P (is_the_truth c b)) → P (binary o l r) → P (unless_known (by_value o l r) (binary o l r))
  by_value_as o (column c) (literal d) f g h k = value_as c f (g c (inl refl)) (h c (inl refl)) true o d.value (binary o (column c) (literal d)) k
  by_value_as o (literal d) (column c) f g h k = value_as c f (g c (inr refl)) (h c (inr refl)) false o d.value (binary o (literal d) (column c)) k
  by_value_as o l r f g h k = k

  pub ended_as : (o : Operator) (l r : Tree Place) → P (bool_literal false) → ((c : Place) → (l ≡ column c) ⊎ (r ≡ column c) → P (is_not_null (column c)))
      → ((c : Place) → (l ≡ column c) ⊎ (r ≡ column c) → (b : Bool) → P (is_the_truth c b)) → P (binary o l r) → P (ended o l r)
  ended_as And l r f g h k = k
  ended_as Or l r f g h k = k
  ended_as Eq l r f g h k = by_value_as Eq l r f g h k
  ended_as NotEq l r f g h k = by_value_as NotEq l r f g h k
  ended_as Gt l r f g h k = by_value_as Gt l r f g h k
  ended_as Gte l r f g h k = by_value_as Gte l r f g h k
  ended_as Lt l r f g h k = by_value_as Lt l r f g h k
  ended_as Lte l r f g h k = by_value_as Lte l r f g h k

-- ---- values of one type

-- two values are of one kind and, of numbers, of one type and in its range; or null
abbrev pub AreAlike : (a b : Option ScalarValue) → Type 0
AreAlike None b = Unit {0}
AreAlike (Some a) None = Unit {0}
AreAlike (Some (value.Bool a)) (Some (value.Bool b)) = Unit {0}
AreAlike (Some (value.Primitive p)) (Some (value.Primitive q)) = SameType p q × (in_range p ≡ true) × (in_range q ≡ true)
AreAlike (Some (value.Utf8 as')) (Some (value.Utf8 bs)) = Unit {0}
AreAlike (Some (value.Binary as')) (Some (value.Binary bs)) = Unit {0}
AreAlike (Some a) (Some b) = ⊥

numbers_alike : (p q : PValue) (t : DType) → is_value (value.Primitive p) t ≡ true → is_value (value.Primitive q) t ≡ true → SameType p q × (in_range p ≡ true) × (in_range q ≡ true)
numbers_alike p q (dtype.Primitive t n) h k =
    let a = and_parts _ (in_range p) h in
    let b = and_parts _ (in_range q) k in
    (eqb-true _ _ a.0 ∙ sym (eqb-true _ _ b.0), a.1, b.1)
numbers_alike p q dtype.Null h k = cc
numbers_alike p q (dtype.Bool n) h k = cc
numbers_alike p q (dtype.Utf8 n) h k = cc
numbers_alike p q (dtype.Binary n) h k = cc
numbers_alike p q (dtype.MinMaxState e n) h k = cc

abbrev type_kind : DType → ℕ
type_kind (dtype.Bool n) = 0
type_kind (dtype.Primitive t n) = 1
type_kind (dtype.Utf8 n) = 2
type_kind (dtype.Binary n) = 3
type_kind t = 4

kind_of : (v : ScalarValue) (t : DType) → is_value v t ≡ true → kind_index v ≡ type_kind t
kind_of (value.Bool b) (dtype.Bool n) h = refl
kind_of (value.Primitive p) (dtype.Primitive t n) h = refl
kind_of (value.Utf8 bs) (dtype.Utf8 n) h = refl
kind_of (value.Binary bs) (dtype.Binary n) h = refl
kind_of v t h = absurd cc

one_kind : (a b : ScalarValue) (t : DType) → is_value a t ≡ true → is_value b t ≡ true → kind_index a ≡ kind_index b
one_kind a b t h k = kind_of a t h ∙ sym (kind_of b t k)

alike_values : (a b : Option ScalarValue) (t : DType) → is_optional_value a t ≡ true → is_optional_value b t ≡ true → AreAlike a b
alike_values None b t h k = tt
alike_values (Some a) None t h k = tt
alike_values (Some (value.Bool x)) (Some (value.Bool y)) t h k = tt
alike_values (Some (value.Primitive p)) (Some (value.Primitive q)) t h k = numbers_alike p q t h k
alike_values (Some (value.Utf8 x)) (Some (value.Utf8 y)) t h k = tt
alike_values (Some (value.Binary x)) (Some (value.Binary y)) t h k = tt
alike_values (Some a) (Some b) t h k = let e : kind_index a ≡ kind_index b = one_kind a b t h k in absurd (omega arith)

-- the operands of a comparison on a row that they fit
pub operands_alike : (row : List Constant) (n : ℕ) (l r : Tree Place) → AreComparable l r → IsRow row → fits_row l row ≡ true → fits_row r row ≡ true → n < 2 ^ 64 → AreAlike (meaning l row n) (meaning r row n)
operands_alike row n l r k is_row f g small =
    alike_values (meaning l row n) (meaning r row n) (as_nullable k.left_type) (meaning-fits l row n k.left_type k.left is_row f small)
    (ap (is_optional_value (meaning r row n)) k.same ∙ meaning-fits r row n k.right_type k.right is_row g small)

-- ---- the ends of a type

types_same : (s t : PType) → ptype_index s ≡ ptype_index t → s ≡ t
types_same ptype.U8 ptype.U8 h = refl
types_same ptype.U16 ptype.U16 h = refl
types_same ptype.U32 ptype.U32 h = refl
types_same ptype.U64 ptype.U64 h = refl
types_same ptype.I8 ptype.I8 h = refl
types_same ptype.I16 ptype.I16 h = refl
types_same ptype.I32 ptype.I32 h = refl
types_same ptype.I64 ptype.I64 h = refl
types_same s t h = absurd (omega arith)

chain : (x y z : ℤ) → not_b (int_lt y x) ≡ true → int_le y z ≡ true → int_le x z ≡ true
chain x y z h k = grind (arith, ints)

chain_down : (x y z : ℤ) → int_le x y ≡ true → not_b (int_lt z y) ≡ true → int_le x z ≡ true
chain_down x y z h k = grind (arith, ints)

no_length : (b : ℕ) (bs : List ℕ) → (length (b ∷ bs) == 0) ≡ true → ⊥
no_length b bs h = let e : length (b ∷ bs) ≡ 0 = eqb-true (length (b ∷ bs)) 0 h in omega arith

least_le : (w v : ScalarValue) → AreAlike (Some w) (Some v) → is_least v ≡ true → value_le v w ≡ true
least_le (value.Bool false) (value.Bool false) k h = refl
least_le (value.Bool true) (value.Bool false) k h = refl
least_le (value.Bool b) (value.Bool true) k h = cc
least_le (value.Primitive p) (value.Primitive q) k h =
    number_le q p (sym k.0) ∙ chain (number_of q) (least (ptype_of q)) (number_of p) h (ap (λ t. int_le (least t) (number_of p)) (sym (types_same (ptype_of p) (ptype_of q) k.0)) ∙ at_least p k.1)
least_le (value.Utf8 []) (value.Utf8 []) k h = refl
least_le (value.Utf8 (c ∷ cs)) (value.Utf8 []) k h = refl
least_le (value.Utf8 cs) (value.Utf8 (b ∷ bs)) k h = absurd (no_length b bs h)
least_le (value.Binary []) (value.Binary []) k h = refl
least_le (value.Binary (c ∷ cs)) (value.Binary []) k h = refl
least_le (value.Binary cs) (value.Binary (b ∷ bs)) k h = absurd (no_length b bs h)
least_le w v k h = absurd k

greatest_le : (w v : ScalarValue) → AreAlike (Some w) (Some v) → is_greatest v ≡ true → value_le w v ≡ true
greatest_le (value.Bool false) (value.Bool true) k h = refl
greatest_le (value.Bool true) (value.Bool true) k h = refl
greatest_le (value.Bool b) (value.Bool false) k h = cc
greatest_le (value.Primitive p) (value.Primitive q) k h =
    number_le p q k.0 ∙ chain_down (number_of p) (greatest (ptype_of q)) (number_of q) (ap (λ t. int_le (number_of p) (greatest t)) (sym (types_same (ptype_of p) (ptype_of q) k.0)) ∙ at_greatest p k.1) h
greatest_le (value.Utf8 cs) (value.Utf8 bs) k h = cc
greatest_le (value.Binary cs) (value.Binary bs) k h = cc
greatest_le w v k h = absurd k

-- ---- what a comparison with an end is

below_told : (o : Operator) (a k : Bool) → from_below o ≡ Some k → by_le o a true ≡ k
below_told Eq a k h = absurd (none-some k h)
below_told NotEq a k h = absurd (none-some k h)
below_told Gt a k h = absurd (none-some k h)
below_told Gte a k h = same_Some _ _ h
below_told Lt a k h = same_Some _ _ h
below_told Lte a k h = absurd (none-some k h)
below_told And a k h = same_Some _ _ h
below_told Or a k h = same_Some _ _ h

above_told : (o : Operator) (b k : Bool) → from_above o ≡ Some k → by_le o true b ≡ k
above_told Eq b k h = absurd (none-some k h)
above_told NotEq b k h = absurd (none-some k h)
above_told Gt b k h = same_Some _ _ h
above_told Gte b k h = absurd (none-some k h)
above_told Lt b k h = absurd (none-some k h)
above_told Lte b k h = same_Some _ _ h
above_told And b k h = same_Some _ _ h
above_told Or b k h = same_Some _ _ h

ends_told : (P : Type 0) (l g k : Bool) (a b : Option Bool) → by_ends l g a b ≡ Some k → (l ≡ true → a ≡ Some k → P) → (g ≡ true → b ≡ Some k → P) → P
ends_told P true g k a b h m n = m refl h
ends_told P false true k a b h m n = n refl h
ends_told P false false k a b h m n = absurd (none-some k h)

end_told : (first : Bool) (o : Operator) (w v : ScalarValue) (k : Bool) → AreAlike (Some w) (Some v) → by_end first o v ≡ Some k → in_order first o w v ≡ k
end_told true o w v k alike h =
    holds_by_le o w v
    ∙ ends_told (by_le o (value_le w v) (value_le v w) ≡ k) (is_least v) (is_greatest v) k (from_below o) (from_above o) h
    (λ l e. ap (by_le o (value_le w v)) (least_le w v alike l) ∙ below_told o (value_le w v) k e)
    (λ g e. ap (λ a. by_le o a (value_le v w)) (greatest_le w v alike g) ∙ above_told o (value_le v w) k e)
end_told false o w v k alike h =
    holds_by_le o v w
    ∙ ends_told (by_le o (value_le v w) (value_le w v) ≡ k) (is_least v) (is_greatest v) k (from_above o) (from_below o) h
    (λ l e. ap (λ a. by_le o a (value_le w v)) (least_le w v alike l) ∙ above_told o (value_le w v) k e)
    (λ g e. ap (by_le o (value_le v w)) (greatest_le w v alike g) ∙ below_told o (value_le v w) k e)

-- ---- what its forms say of a row

abbrev ordered : (first : Bool) → Operator → (a v : Option ScalarValue) → Bool
ordered true o a v = is_wanted true (compared o a v)
ordered false o a v = is_wanted true (compared o v a)

no_value : (first : Bool) (o : Operator) (v : ScalarValue) → ordered first o None (Some v) ≡ false
no_value true o v = refl
no_value false o v = refl

some_value : (first : Bool) (o : Operator) (w v : ScalarValue) → ordered first o (Some w) (Some v) ≡ in_order first o w v
some_value true o w v = refl
some_value false o w v = refl

module _ (row : List Constant) (n : ℕ) (c : Place) where
  each_told : (k : Bool) (a : Option ScalarValue) → meaning (column c) row n ≡ a → satisfies (each_value c k) row n ≡ (not_b (is_none a) && k)
  each_told true None e = ap (λ v. not_b (is_none v)) e
  each_told true (Some w) e = ap (λ v. not_b (is_none v)) e
  each_told false None e = refl
  each_told false (Some w) e = refl

  one_told : (b : Bool) (a : Option ScalarValue) → meaning (column c) row n ≡ a → satisfies (is_the_truth c b) row n ≡ is_true (truth_value (compared Eq a (Some (value.Bool b))))
  one_told b a e = ap (λ v. is_true (truth_value (compared Eq v (Some (value.Bool b))))) e

  abbrev picked : (f t : Bool) → Option ScalarValue → Bool
  picked f t (Some (value.Bool false)) = f
  picked f t (Some (value.Bool true)) = t
  picked f t v = false

  truths_told : (f t b : Bool) (a : Option ScalarValue) → meaning (column c) row n ≡ a → AreAlike a (Some (value.Bool b)) → satisfies (of_truths c f t) row n ≡ picked f t a
  truths_told false false b None e k = refl
  truths_told false false b (Some (value.Bool false)) e k = refl
  truths_told false false b (Some (value.Bool true)) e k = refl
  truths_told true false b None e k = one_told false None e
  truths_told true false b (Some (value.Bool false)) e k = one_told false (Some (value.Bool false)) e
  truths_told true false b (Some (value.Bool true)) e k = one_told false (Some (value.Bool true)) e
  truths_told false true b None e k = one_told true None e
  truths_told false true b (Some (value.Bool false)) e k = one_told true (Some (value.Bool false)) e
  truths_told false true b (Some (value.Bool true)) e k = one_told true (Some (value.Bool true)) e
  truths_told true true b None e k = ap (λ v. not_b (is_none v)) e
  truths_told true true b (Some (value.Bool false)) e k = ap (λ v. not_b (is_none v)) e
  truths_told true true b (Some (value.Bool true)) e k = ap (λ v. not_b (is_none v)) e
  truths_told f t b (Some (value.Primitive p)) e k = absurd k
  truths_told f t b (Some (value.Utf8 bs)) e k = absurd k
  truths_told f t b (Some (value.Binary bs)) e k = absurd k

  picked_told : (first : Bool) (o : Operator) (b : Bool) (a : Option ScalarValue) → AreAlike a (Some (value.Bool b))
      → picked (in_order first o (value.Bool false) (value.Bool b)) (in_order first o (value.Bool true) (value.Bool b)) a ≡ ordered first o a (Some (value.Bool b))
  picked_told first o b None k = sym (no_value first o (value.Bool b))
  picked_told first o b (Some (value.Bool false)) k = sym (some_value first o (value.Bool false) (value.Bool b))
  picked_told first o b (Some (value.Bool true)) k = sym (some_value first o (value.Bool true) (value.Bool b))
  picked_told first o b (Some (value.Primitive p)) k = absurd k
  picked_told first o b (Some (value.Utf8 bs)) k = absurd k
  picked_told first o b (Some (value.Binary bs)) k = absurd k

  module _ (a : Option ScalarValue) (is : meaning (column c) row n ≡ a) (first : Bool) (o : Operator) (e : Tree Place) where
    typed_told : (d : DType) (b : Bool) → AreAlike a (Some (value.Bool b)) → satisfies e row n ≡ ordered first o a (Some (value.Bool b))
        → satisfies (unless_known (of_type c d (in_order first o (value.Bool false) (value.Bool b)) (in_order first o (value.Bool true) (value.Bool b))) e) row n ≡ ordered first o a (Some (value.Bool b))
    typed_told (dtype.Bool m) b k h =
        truths_told (in_order first o (value.Bool false) (value.Bool b)) (in_order first o (value.Bool true) (value.Bool b)) b a is k ∙ picked_told first o b a k
    typed_told dtype.Null b k h = h
    typed_told (dtype.Primitive p m) b k h = h
    typed_told (dtype.Utf8 m) b k h = h
    typed_told (dtype.Binary m) b k h = h
    typed_told (dtype.MinMaxState s m) b k h = h

    end_as : (v : ScalarValue) (w : Option ScalarValue) → a ≡ w → AreAlike w (Some v) → (k : Bool) → by_end first o v ≡ Some k → (not_b (is_none w) && k) ≡ ordered first o w (Some v)
    end_as v None s alike k h = sym (no_value first o v)
    end_as v (Some w) s alike k h = sym (some_value first o w v ∙ end_told first o w v k alike h)

    known_told : (v : ScalarValue) → AreAlike a (Some v) → (k : Option Bool) → by_end first o v ≡ k → satisfies e row n ≡ ordered first o a (Some v)
        → satisfies (unless_known (option_map (each_value c) k) e) row n ≡ ordered first o a (Some v)
    known_told v alike None h g = g
    known_told v alike (Some k) h g = each_told k a is ∙ end_as v a refl alike k h

    value_told : (v : Option ScalarValue) → AreAlike a v → satisfies e row n ≡ ordered first o a v → satisfies (unless_known (at_value c first o v) e) row n ≡ ordered first o a v
    value_told None k h = h
    value_told (Some (value.Bool b)) k h = typed_told c.dtype b k h
    value_told (Some (value.Primitive p)) k h = known_told (value.Primitive p) k (by_end first o (value.Primitive p)) refl h
    value_told (Some (value.Utf8 bs)) k h = known_told (value.Utf8 bs) k (by_end first o (value.Utf8 bs)) refl h
    value_told (Some (value.Binary bs)) k h = known_told (value.Binary bs) k (by_end first o (value.Binary bs)) refl h

alike_turned : (a b : Option ScalarValue) → AreAlike a b → AreAlike b a
alike_turned None None k = tt
alike_turned None (Some b) k = tt
alike_turned (Some a) None k = tt
alike_turned (Some (value.Bool a)) (Some (value.Bool b)) k = tt
alike_turned (Some (value.Primitive p)) (Some (value.Primitive q)) k = (sym k.0, k.2, k.1)
alike_turned (Some (value.Utf8 x)) (Some (value.Utf8 y)) k = tt
alike_turned (Some (value.Binary x)) (Some (value.Binary y)) k = tt
alike_turned (Some a) (Some b) k = absurd k

module _ (row : List Constant) (n : ℕ) (o : Operator) where
  abbrev IsTold : (l r e : Tree Place) → Type 0
  IsTold l r e = satisfies e row n ≡ is_wanted true (compared o (meaning l row n) (meaning r row n))

  by_value_told : (l r : Tree Place) → AreAlike (meaning l row n) (meaning r row n) → IsTold l r (binary o l r) → IsTold l r (unless_known (by_value o l r) (binary o l r))
  by_value_told (column c) (literal d) k h = value_told row n c (meaning (column c) row n) refl true o (binary o (column c) (literal d)) d.value k h
  by_value_told (literal d) (column c) k h =
      value_told row n c (meaning (column c) row n) refl false o (binary o (literal d) (column c)) d.value (alike_turned d.value (meaning (column c) row n) k) h
  by_value_told l r k h = h

-- a comparison of operands that are alike is satisfied as its form is
pub ended_told : (row : List Constant) (n : ℕ) (o : Operator) (l r : Tree Place) → AreAlike (meaning l row n) (meaning r row n)
    → satisfies (binary o l r) row n ≡ is_wanted true (compared o (meaning l row n) (meaning r row n)) → satisfies (ended o l r) row n ≡ is_wanted true (compared o (meaning l row n) (meaning r row n))
ended_told row n And l r k h = h
ended_told row n Or l r k h = h
ended_told row n Eq l r k h = by_value_told row n Eq l r k h
ended_told row n NotEq l r k h = by_value_told row n NotEq l r k h
ended_told row n Gt l r k h = by_value_told row n Gt l r k h
ended_told row n Gte l r k h = by_value_told row n Gte l r k h
ended_told row n Lt l r k h = by_value_told row n Lt l r k h
ended_told row n Lte l r k h = by_value_told row n Lte l r k h
