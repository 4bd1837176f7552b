-- The six comparisons of values by one test: that a value is at most another.
use Rattle.std.proofs.Common.{◌≡◌, Bool, true, false, not, ◌&&◌, refl, sym, ap, ap₂, ◌∙◌}
use Rattle.std.specs.declared.cmp.Ordering.{Ordering}
use Rattle.std.specs.declared.cmp.Ordering.TheVariants.{Less, Equal, Greater}
use Rattle.std.specs.Ordering.{is_gt, ordering_reverse}
use Rattle.std.specs.Cmp.{tied_itself, upto}
use Rattle.std.proofs.lemmas.Bool.{not-true, and_parts}
use Rattle.vortex_base.proofs.Data.OrderLemmas.{value_cmp-total, value_cmp-ties}
use Rattle.vortex_expr.specs.Meanings.Meaning.{holds}
use Rattle.vortex_base.specs.Data.Values.{value_cmp}
use Rattle.vortex_expr.specs.declared.scalar_fn.Operator.{Operator}
use Rattle.vortex_expr.specs.declared.scalar_fn.Operator.TheVariants.{Eq, NotEq, Gt, Gte, Lt, Lte, And, Or}
use Rattle.vortex_base.specs.declared.scalar_value.ScalarValue.{ScalarValue}

-- x is at most y
abbrev pub value_le : ScalarValue → ScalarValue → Bool
value_le x y = not (is_gt (value_cmp x y))

pub le_refl : (x : ScalarValue) → value_le x x ≡ true
le_refl x = ap (λ o. not (is_gt o)) (tied_itself value_cmp-total x)

pub le_trans : (x y z : ScalarValue) → value_le x y ≡ true → value_le y z ≡ true → value_le x z ≡ true
le_trans x y z h k = ap not (upto value_cmp-total x y z (not_not h) (not_not k))
  where
    not_not : {b : Bool} → not b ≡ true → b ≡ false
    not_not {b = true} e = cc
    not_not {b = false} e = refl

le_other : (o : Ordering) → not (is_gt (ordering_reverse o)) ≡ false → not (is_gt o) ≡ true
le_other Less e = refl
le_other Equal e = refl
le_other Greater e = cc

pub le_total : (x y : ScalarValue) → value_le x y ≡ false → value_le y x ≡ true
le_total x y h = le_other (value_cmp y x) (sym (ap (λ o. not (is_gt o)) (value_cmp-total.antisymm x y)) ∙ h)

tied_both : (o : Ordering) → not (is_gt (ordering_reverse o)) ≡ true → not (is_gt o) ≡ true → o ≡ Equal
tied_both Less h k = cc
tied_both Equal h k = refl
tied_both Greater h k = cc

pub le_antisym : (x y : ScalarValue) → value_le x y ≡ true → value_le y x ≡ true → x ≡ y
le_antisym x y h k =
    sym ((value_cmp-ties y x).0 (tied_both (value_cmp y x) (sym (ap (λ o. not (is_gt o)) (value_cmp-total.antisymm x y)) ∙ h) k))

-- ---- the comparisons by two tests: that x is at most y, and that y is at most x

abbrev pub by_le : Operator → Bool → Bool → Bool
by_le Eq a b = a && b
by_le NotEq a b = not (a && b)
by_le Gt a b = not a
by_le Gte a b = b
by_le Lt a b = not b
by_le Lte a b = a
by_le And a b = false
by_le Or a b = false

by_le_at : (op : Operator) (o : Ordering) → holds op o ≡ by_le op (not (is_gt o)) (not (is_gt (ordering_reverse o)))
by_le_at Eq Less = refl
by_le_at Eq Equal = refl
by_le_at Eq Greater = refl
by_le_at NotEq Less = refl
by_le_at NotEq Equal = refl
by_le_at NotEq Greater = refl
by_le_at Gt Less = refl
by_le_at Gt Equal = refl
by_le_at Gt Greater = refl
by_le_at Gte Less = refl
by_le_at Gte Equal = refl
by_le_at Gte Greater = refl
by_le_at Lt Less = refl
by_le_at Lt Equal = refl
by_le_at Lt Greater = refl
by_le_at Lte Less = refl
by_le_at Lte Equal = refl
by_le_at Lte Greater = refl
by_le_at And o = refl
by_le_at Or o = refl

pub holds_by_le : (op : Operator) (x y : ScalarValue) → holds op (value_cmp x y) ≡ by_le op (value_le x y) (value_le y x)
holds_by_le op x y = by_le_at op (value_cmp x y) ∙ ap (λ o. by_le op (value_le x y) (not (is_gt o))) (sym (value_cmp-total.antisymm y x))

-- what a comparison says of the order
pub gt_le : (x y : ScalarValue) → holds Gt (value_cmp x y) ≡ true → value_le x y ≡ false
gt_le x y h = not-true (value_le x y) (sym (holds_by_le Gt x y) ∙ h)

pub gte_le : (x y : ScalarValue) → holds Gte (value_cmp x y) ≡ true → value_le y x ≡ true
gte_le x y h = sym (holds_by_le Gte x y) ∙ h

pub lt_le : (x y : ScalarValue) → holds Lt (value_cmp x y) ≡ true → value_le y x ≡ false
lt_le x y h = not-true (value_le y x) (sym (holds_by_le Lt x y) ∙ h)

pub eq_le : (x y : ScalarValue) → holds Eq (value_cmp x y) ≡ true → (value_le x y ≡ true) × (value_le y x ≡ true)
eq_le x y h = and_parts _ _ (sym (holds_by_le Eq x y) ∙ h)

-- what the order says of a comparison
pub by_order : (op : Operator) (x y : ScalarValue) (s t : Bool) → value_le x y ≡ s → value_le y x ≡ t → holds op (value_cmp x y) ≡ by_le op s t
by_order op x y s t h k = holds_by_le op x y ∙ ap₂ (by_le op) h k
