-- A BETWEEN that is rewritten by other ends holds where it did, has its type, and is over the same columns.
use Rattle.std.proofs.Common.{◌≡◌, ℕ, ◌==◌, Bool, true, false, not, ◌&&◌, ◌⊎◌, inl, inr, List, Option, Some, None, Result, Ok, Err, IsOk, int_le, refl, sym, ap, ap₂, ◌∙◌, subst, if◌then◌else◌}
use Rattle.std.proofs.lemmas.Bool.{and_parts, not-true, eqb-true}
use Rattle.std.specs.Prelude.{is_ok}
use Rattle.std.specs.Ordering.{is_gt}
use Rattle.std.specs.declared.cmp.Ordering.{Ordering}
use Rattle.std.specs.declared.cmp.Ordering.TheVariants.{Less, Equal, Greater}
use Rattle.vortex_base.proofs.Data.OrderLemmas.{value_cmp-ties}
use Rattle.vortex_expr.proofs.Meanings.PlacedTypes.{with_three-ok}
use Rattle.vortex_expr.specs.Trees.Between.{to_operator}
use Rattle.vortex_expr.specs.Meanings.Meaning.{applied, both, compared, holds, is_true, meaning, satisfies, truth_value, within}
use Rattle.vortex_base.specs.Data.Scalars.{Constant, is_optional_value}
use Rattle.vortex_expr.specs.Trees.Tree.{Tree, Place, literal, between}
use Rattle.vortex_base.specs.Data.Types.{as_nullable, dtype_eq_is_exact, eq_ignore_nullability, ptype_index}
use Rattle.vortex_expr.specs.Meanings.Typing.{between_type, type_of, with_type, with_types}
use Rattle.vortex_base.specs.Data.Values.{in_range, is_value, ptype_of, value_cmp}
use Rattle.vortex_expr.specs.declared.scalar_fn.BetweenOptions.{BetweenOptions}
use Rattle.vortex_expr.specs.declared.scalar_fn.StrictComparison.{StrictComparison}
use Rattle.vortex_expr.specs.declared.scalar_fn.StrictComparison.TheVariants.{Strict, NonStrict}
use Rattle.vortex_base.specs.declared.dtype.DType.{DType}
use Rattle.vortex_base.specs.declared.dtype.DType.TheVariants as dtype
use Rattle.vortex_base.specs.declared.error.BaseError.{BaseError}
use Rattle.vortex_base.specs.declared.error.BaseError.TheVariants.{Mismatch}
use Rattle.vortex_base.specs.declared.pvalue.PValue.{PValue}
use Rattle.vortex_base.specs.declared.scalar_value.ScalarValue.{ScalarValue}
use Rattle.vortex_base.specs.declared.scalar_value.ScalarValue.TheVariants as value
use Rattle.vortex_rewrite.proofs.Soundness.NumberEnds.{SameType, ends_moved, high_end, high_in_range, low_end, low_in_range, none_between, resized_type}
use Rattle.vortex_rewrite.proofs.Completeness.Operands.{if_ok, same_values}
use Rattle.vortex_rewrite.proofs.Rewriting.OverParts.{comparable_ends}
use Rattle.vortex_rewrite.proofs.Soundness.TruthLogic.{clash, refuted, truth_back}
use Rattle.vortex_rewrite.proofs.Soundness.ValueTests.{value_le, le_refl, le_total, le_trans, lt_le}
use Rattle.vortex_base.specs.Data.Scopes.{Named}
use Rattle.vortex_rewrite.specs.Rewriting.Lawful.{is_of_scope}
use Rattle.vortex_rewrite.specs.Rewriting.Falsifiers.{Ends, are_closed, closed, ends, halves, high_size, is_crossed, literal_ends, low_size, number_literal, value_ends}

-- ---- what a BETWEEN tests

-- at each end of a BETWEEN the operator is a comparison
pub end_compares : (s : StrictComparison) (a b : Option ScalarValue) → applied (to_operator s) a b ≡ compared (to_operator s) a b
end_compares Strict a b = refl
end_compares NonStrict a b = refl

-- a BETWEEN is the AND of its two comparisons
pub between_is : (row : List Constant) (n : ℕ) (o : BetweenOptions) (x l u : Tree Place) → satisfies (halves o x l u) row n ≡ satisfies (between o x l u) row n
between_is row n o x l u =
    ap₂ (λ s t. is_true (truth_value (both s t)))
    (truth_back (applied (to_operator o.lower_strict) (meaning l row n) (meaning x row n)) ∙ end_compares o.lower_strict (meaning l row n) (meaning x row n))
    (truth_back (applied (to_operator o.upper_strict) (meaning x row n) (meaning u row n)) ∙ end_compares o.upper_strict (meaning x row n) (meaning u row n))

-- an optional value lies between two values
abbrev pub lies : BetweenOptions → Option ScalarValue → (v w : ScalarValue) → Bool
lies o x v w = is_true (truth_value (within o x (Some v) (Some w)))

abbrev pub passes : BetweenOptions → (z v w : ScalarValue) → Bool
passes o z v w = holds (to_operator o.lower_strict) (value_cmp v z) && holds (to_operator o.upper_strict) (value_cmp z w)

two_known : (s t : Bool) → is_true (truth_value (both (Some s) (Some t))) ≡ (s && t)
two_known true t = refl
two_known false t = refl

pub lies_some : (o : BetweenOptions) (z v w : ScalarValue) → lies o (Some z) v w ≡ passes o z v w
lies_some o z v w = two_known (holds (to_operator o.lower_strict) (value_cmp v z)) (holds (to_operator o.upper_strict) (value_cmp z w))

lies_never : (o : BetweenOptions) (v w : ScalarValue) → ((z : ScalarValue) → passes o z v w ≡ false) → (x : Option ScalarValue) → lies o x v w ≡ false
lies_never o v w h None = refl
lies_never o v w h (Some z) = lies_some o z v w ∙ h z

lies_same : (o q : BetweenOptions) (a b v w : ScalarValue) → ((z : ScalarValue) → passes o z v w ≡ passes q z a b) → (x : Option ScalarValue) → lies q x a b ≡ lies o x v w
lies_same o q a b v w h None = refl
lies_same o q a b v w h (Some z) = lies_some q z a b ∙ sym (h z) ∙ sym (lies_some o z v w)

-- ---- ends that crossed

-- where a comparison of the ends' kind holds, the first is at most the second
pub end_le : (s : StrictComparison) (a b : ScalarValue) → holds (to_operator s) (value_cmp a b) ≡ true → value_le a b ≡ true
end_le Strict a b h = le_total b a (lt_le a b h)
end_le NonStrict a b h = h

abbrev Crossed : BetweenOptions → (v w : ScalarValue) → Type 0
Crossed o v w = (value_le v w ≡ false) ⊎ ((are_closed o ≡ false) × (value_le w v ≡ true))

crossed_at : (o : BetweenOptions) (v w : ScalarValue) (r : Ordering) → value_cmp v w ≡ r → is_crossed o r ≡ true → Crossed o v w
crossed_at o v w Less e h = cc
crossed_at o v w Equal e h = inr (not-true (are_closed o) h, ap (λ x. value_le w x) ((value_cmp-ties v w).0 e) ∙ le_refl w)
crossed_at o v w Greater e h = inl (ap (λ r. not (is_gt r)) e)

none_passes : (s t : StrictComparison) (v w : ScalarValue) → Crossed (record { lower_strict = s; upper_strict = t }) v w
    → (z : ScalarValue) → holds (to_operator s) (value_cmp v z) ≡ true → holds (to_operator t) (value_cmp z w) ≡ true → ⊥
none_passes s t v w (inl h) z a b = clash (le_trans v z w (end_le s v z a) (end_le t z w b)) h
none_passes Strict t v w (inr h) z a b = clash (le_trans z w v (end_le t z w b) h.1) (lt_le v z a)
none_passes NonStrict Strict v w (inr h) z a b = clash (le_trans w v z h.1 a) (lt_le z w b)
none_passes NonStrict NonStrict v w (inr h) z a b = clash refl h.0

crossed_never : (o : BetweenOptions) (v w : ScalarValue) → is_crossed o (value_cmp v w) ≡ true → (z : ScalarValue) → passes o z v w ≡ false
crossed_never o v w h z = refuted (passes o z v w) (λ e.
    let k = and_parts (holds (to_operator o.lower_strict) (value_cmp v z)) (holds (to_operator o.upper_strict) (value_cmp z w)) e in
    none_passes o.lower_strict o.upper_strict v w (crossed_at o v w (value_cmp v w) refl h) z k.0 k.1)

-- ---- types

literal_typed : (c : Constant) → IsOk (type_of (literal c)) → is_optional_value c.value c.dtype ≡ true
literal_typed c h = if_ok (is_optional_value c.value c.dtype) c.dtype Mismatch h

-- the literals of a BETWEEN that has a type are of one type, nullability aside
pub ends_alike : (o : BetweenOptions) (x : Tree Place) (c d : Constant) → IsOk (type_of (between o x (literal c) (literal d)))
    → (is_optional_value c.value c.dtype ≡ true) × (is_optional_value d.value d.dtype ≡ true) × (eq_ignore_nullability c.dtype d.dtype ≡ true)
ends_alike o x c d ok =
    let t = with_three-ok between_type (type_of x) (type_of (literal c)) (type_of (literal d)) ok in
    let lower = literal_typed c t.1.0 in
    let upper = literal_typed d t.1.1 in
    (lower, upper, alike (type_of x) (is_optional_value c.value c.dtype) (is_optional_value d.value d.dtype) lower upper ok)
  where
    alike : (a : Result DType BaseError) (s t : Bool) → s ≡ true → t ≡ true
        → IsOk (with_type (λ y. with_types (between_type y) (if s then Ok c.dtype else Err Mismatch) (if t then Ok d.dtype else Err Mismatch)) a) → eq_ignore_nullability c.dtype d.dtype ≡ true
    alike (Ok y) true true h k ok =
        let two = comparable_ends y c.dtype d.dtype ok in
        let first : as_nullable y ≡ as_nullable c.dtype = (dtype_eq_is_exact (as_nullable y) (as_nullable c.dtype)).0 (and_parts (eq_ignore_nullability y c.dtype) _ two.0).0 in
        let second : as_nullable y ≡ as_nullable d.dtype = (dtype_eq_is_exact (as_nullable y) (as_nullable d.dtype)).0 (and_parts (eq_ignore_nullability y d.dtype) _ two.1).0 in
        (dtype_eq_is_exact (as_nullable c.dtype) (as_nullable d.dtype)).1 (sym first ∙ second)
    alike (Ok y) true false h k ok = cc
    alike (Ok y) false t h k ok = cc
    alike (Err f) s t h k ok = cc

numbers_of_type : (p q : PValue) (t : DType) → is_value (value.Primitive p) t ≡ true → is_value (value.Primitive q) t ≡ true → SameType p q × (in_range p ≡ true) × (in_range q ≡ true)
numbers_of_type p q (dtype.Primitive t n) h k =
    let a = and_parts (ptype_index (ptype_of p) == ptype_index t) (in_range p) h in
    let b = and_parts (ptype_index (ptype_of q) == ptype_index t) (in_range q) k in
    (eqb-true (ptype_index (ptype_of p)) (ptype_index t) a.0 ∙ sym (eqb-true (ptype_index (ptype_of q)) (ptype_index t) b.0), a.1, b.1)
numbers_of_type p q dtype.Null h k = cc
numbers_of_type p q (dtype.Bool n) h k = cc
numbers_of_type p q (dtype.Utf8 n) h k = cc
numbers_of_type p q (dtype.Binary n) h k = cc
numbers_of_type p q (dtype.MinMaxState e n) h k = cc

-- a number of the same PType, in its range, is of the type too
pub of_type : (p q : PValue) (t : DType) → ptype_of q ≡ ptype_of p → in_range q ≡ true → is_value (value.Primitive p) t ≡ true → is_value (value.Primitive q) t ≡ true
of_type p q (dtype.Primitive t n) same fits h =
    ap₂ ◌&&◌ (ap (λ s. ptype_index s == ptype_index t) same ∙ (and_parts (ptype_index (ptype_of p) == ptype_index t) (in_range p) h).0) fits
of_type p q dtype.Null same fits h = cc
of_type p q (dtype.Bool n) same fits h = cc
of_type p q (dtype.Utf8 n) same fits h = cc
of_type p q (dtype.Binary n) same fits h = cc
of_type p q (dtype.MinMaxState e n) same fits h = cc

-- ---- rewritten BETWEENs

-- by these ends it means the same
pub record IsMoved (o : BetweenOptions) (x l u : Tree Place) (e : Ends) : Type 0 where
  pub typed : type_of (between e.options x e.lower e.upper) ≡ type_of (between o x l u)
  pub over : (scope : List Named) → is_of_scope (between e.options x e.lower e.upper) scope ≡ is_of_scope (between o x l u) scope
  pub same : (row : List Constant) (n : ℕ) → satisfies (between e.options x e.lower e.upper) row n ≡ satisfies (between o x l u) row n

-- without ends no row satisfies it
abbrev pub Rewritten : BetweenOptions → (x l u : Tree Place) → Option Ends → Type 0
Rewritten o x l u None = (row : List Constant) (n : ℕ) → satisfies (between o x l u) row n ≡ false
Rewritten o x l u (Some e) = IsMoved o x l u e

as_it_stands : (o : BetweenOptions) (x l u : Tree Place) → IsMoved o x l u (record { options = o; lower = l; upper = u })
as_it_stands o x l u = record { typed = refl; over = λ cs. refl; same = λ row n. refl }

-- two numbers that are the ends of a BETWEEN that has a type
pub record AreNumbers (c d : Constant) (p q : PValue) : Type 0 where
  pub same : SameType p q
  pub p_in : in_range p ≡ true
  pub q_in : in_range q ≡ true
  pub p_fits : is_value (value.Primitive p) c.dtype ≡ true
  pub q_fits : is_value (value.Primitive q) d.dtype ≡ true

pub of_one_type : (c d : Constant) (p q : PValue) → is_optional_value c.value c.dtype ≡ true → is_optional_value d.value d.dtype ≡ true → eq_ignore_nullability c.dtype d.dtype ≡ true
    → c.value ≡ Some (value.Primitive p) → d.value ≡ Some (value.Primitive q) → AreNumbers c d p q
of_one_type c d p q fit fit' alike a b =
    let p_fits : is_value (value.Primitive p) c.dtype ≡ true = subst (λ v. is_optional_value v c.dtype ≡ true) a fit in
    let q_fits : is_value (value.Primitive q) d.dtype ≡ true = subst (λ v. is_optional_value v d.dtype ≡ true) b fit' in
    let n = numbers_of_type p q d.dtype (sym (same_values (value.Primitive p) c.dtype d.dtype alike) ∙ p_fits) q_fits in
    record { same = n.0; p_in = n.1; q_in = n.2; p_fits = p_fits; q_fits = q_fits }

pub are_numbers : (o : BetweenOptions) (x : Tree Place) (c d : Constant) (p q : PValue) → IsOk (type_of (between o x (literal c) (literal d))) → c.value ≡ Some (value.Primitive p) → d.value ≡ Some (value.Primitive q) → AreNumbers c d p q
are_numbers o x c d p q ok a b = let t = ends_alike o x c d ok in of_one_type c d p q t.0 t.1 t.2 a b

module _ (o : BetweenOptions) (x : Tree Place) (c d : Constant) (ok : IsOk (type_of (between o x (literal c) (literal d)))) where
  -- what a row says of two literals
  said : (v w : ScalarValue) → c.value ≡ Some v → d.value ≡ Some w → (row : List Constant) (n : ℕ) → satisfies (between o x (literal c) (literal d)) row n ≡ lies o (meaning x row n) v w
  said v w a b row n = λ i. is_true (truth_value (within o (meaning x row n) (a i) (b i)))

  module _ (p q : PValue) (a : c.value ≡ Some (value.Primitive p)) (b : d.value ≡ Some (value.Primitive q)) where
    abbrev low : PValue
    low = low_end o.lower_strict p

    abbrev high : PValue
    high = high_end o.upper_strict q

    number_type : (t : DType) (r : PValue) → is_value (value.Primitive r) t ≡ true → type_of (literal (record { dtype = t; value = Some (value.Primitive r) })) ≡ Ok t
    number_type t r h = ap (λ (s : Bool). if s then Ok t else Err Mismatch) h

    constant_type : (k : Constant) (v : ScalarValue) → k.value ≡ Some v → is_value v k.dtype ≡ true → type_of (literal k) ≡ Ok k.dtype
    constant_type k v e h = ap (λ (s : Bool). if s then Ok k.dtype else Err Mismatch) (ap (λ w. is_optional_value w k.dtype) e ∙ h)

    tested_numbers : (t : Bool) → int_le (low_size o.lower_strict p) (high_size o.upper_strict q) ≡ t
        → Rewritten o x (literal c) (literal d) (if t then Some (record { options = closed; lower = number_literal c low; upper = number_literal d high }) else None)
    tested_numbers true h =
        let k = are_numbers o x c d p q ok a b in
        let low_fits = of_type p low c.dtype (resized_type p (low_size o.lower_strict p)) (low_in_range o.lower_strict o.upper_strict p q k.same k.p_in k.q_in h) k.p_fits in
        let high_fits = of_type q high d.dtype (resized_type q (high_size o.upper_strict q)) (high_in_range o.lower_strict o.upper_strict p q k.same k.p_in k.q_in h) k.q_fits in
        record {
          typed =
              λ i. with_type (λ t. with_types (between_type t) ((number_type c.dtype low low_fits ∙ sym (constant_type c (value.Primitive p) a k.p_fits)) i) ((number_type d.dtype high high_fits ∙ sym (constant_type d (value.Primitive q) b k.q_fits)) i)) (type_of x);
          over = λ cs. refl;
          same = λ row n.
              lies_same o closed (value.Primitive low) (value.Primitive high) (value.Primitive p) (value.Primitive q) (ends_moved o.lower_strict o.upper_strict p q k.same k.p_in k.q_in h) (meaning x row n)
              ∙ sym (said (value.Primitive p) (value.Primitive q) a b row n);
        }
    tested_numbers false h =
        let k = are_numbers o x c d p q ok a b in
        λ row n. said (value.Primitive p) (value.Primitive q) a b row n
        ∙ lies_never o (value.Primitive p) (value.Primitive q) (none_between o.lower_strict o.upper_strict p q k.same k.p_in k.q_in h) (meaning x row n)

  tested_values : (v w : ScalarValue) → c.value ≡ Some v → d.value ≡ Some w → (t : Bool) → is_crossed o (value_cmp v w) ≡ t
      → Rewritten o x (literal c) (literal d) (if t then None else Some (record { options = o; lower = literal c; upper = literal d }))
  tested_values v w a b true h = λ row n. said v w a b row n ∙ lies_never o v w (crossed_never o v w h) (meaning x row n)
  tested_values v w a b false h = as_it_stands o x (literal c) (literal d)

  of_values : (v w : ScalarValue) → c.value ≡ Some v → d.value ≡ Some w → Rewritten o x (literal c) (literal d) (value_ends o c d v w)
  of_values (value.Primitive p) (value.Primitive q) a b = tested_numbers p q a b (int_le (low_size o.lower_strict p) (high_size o.upper_strict q)) refl
  of_values v w a b = tested_values v w a b (is_crossed o (value_cmp v w)) refl

  of_literals : (v w : Option ScalarValue) → c.value ≡ v → d.value ≡ w → Rewritten o x (literal c) (literal d) (literal_ends o c d v w)
  of_literals (Some v) (Some w) a b = of_values v w a b
  of_literals v w a b = as_it_stands o x (literal c) (literal d)

pub rewritten : (o : BetweenOptions) (x l u : Tree Place) → IsOk (type_of (between o x l u)) → Rewritten o x l u (ends o l u)
rewritten o x (literal c) (literal d) ok = of_literals o x c d ok c.value d.value refl refl
rewritten o x l u ok = as_it_stands o x l u

-- and it has a type if it had one
pub moved_typed : (o : BetweenOptions) (x l u : Tree Place) (e : Ends) → IsOk (type_of (between o x l u)) → ends o l u ≡ Some e → IsOk (type_of (between e.options x e.lower e.upper))
moved_typed o x l u e ok is =
    let m : IsMoved o x l u e = subst (Rewritten o x l u) is (rewritten o x l u ok) in
    ap is_ok m.typed ∙ ok
