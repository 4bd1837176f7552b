-- Two intervals of values, and the six comparisons between values of them.
use Rattle.std.proofs.Common.{◌≡◌, Bool, true, false, not, ◌&&◌, ◌||◌, refl, sym, ap, ◌∙◌, ⊎_elim}
use Rattle.std.proofs.lemmas.Bool.{not-false, and_parts, or_cases, and_left, and_right, and_cases, or_parts}
use Rattle.vortex_expr.specs.Meanings.Meaning.{holds}
use Rattle.vortex_base.specs.Data.Values.{value_cmp}
use Rattle.vortex_expr.specs.declared.scalar_fn.Operator.{Operator}
use Rattle.vortex_expr.specs.declared.scalar_fn.Operator.TheVariants.{Eq, NotEq, Gt, Gte, Lt, Lte, And, Or}
use Rattle.vortex_base.specs.declared.scalar_value.ScalarValue.{ScalarValue}
use Rattle.vortex_rewrite.proofs.Soundness.TruthLogic.{clash, refuted}
use Rattle.vortex_rewrite.proofs.Soundness.ValueTests.{value_le, le_refl, le_trans, le_total, holds_by_le, by_order, gt_le, gte_le, lt_le, eq_le}

-- the comparison is one of the six, and no connective
abbrev pub is_comparison : Operator → Bool
is_comparison And = false
is_comparison Or = false
is_comparison o = true

abbrev pub test : Operator → ScalarValue → ScalarValue → Bool
test o x y = holds o (value_cmp x y)

-- what the falsifier of a comparison tests of the ends of two intervals, a to b and c to d
abbrev pub apart : Operator → (a b c d : ScalarValue) → Bool
apart Eq a b c d = test Gt a d || test Gt c b
apart NotEq a b c d = test Eq a d && test Eq b c
apart Gt a b c d = test Lte b c
apart Gte a b c d = test Lt b c
apart Lt a b c d = test Gte a d
apart Lte a b c d = test Gt a d
apart And a b c d = false
apart Or a b c d = false

-- two values, one of each interval, of which the comparison holds
pub record Found (P : ScalarValue → Type 0) (o : Operator) (a b c d : ScalarValue) : Type 0 where
  pub x : ScalarValue
  pub y : ScalarValue
  pub x_is : P x
  pub y_is : P y
  pub a_x : value_le a x ≡ true
  pub x_b : value_le x b ≡ true
  pub c_y : value_le c y ≡ true
  pub y_d : value_le y d ≡ true
  pub holds : test o x y ≡ true

-- where a comparison fails, its values stand the other way
pub not_gt : (x y : ScalarValue) → test Gt x y ≡ false → value_le x y ≡ true
not_gt x y h = not-false (value_le x y) (sym (holds_by_le Gt x y) ∙ h)

not_lt : (x y : ScalarValue) → test Lt x y ≡ false → value_le y x ≡ true
not_lt x y h = not-false (value_le y x) (sym (holds_by_le Lt x y) ∙ h)

not_gte : (x y : ScalarValue) → test Gte x y ≡ false → value_le y x ≡ false
not_gte x y h = sym (holds_by_le Gte x y) ∙ h

equal : (v : ScalarValue) → test Eq v v ≡ true
equal v = by_order Eq v v true true (le_refl v) (le_refl v)

not_equal : (x y : ScalarValue) → test Eq x y ≡ false → test NotEq x y ≡ true
not_equal x y h = holds_by_le NotEq x y ∙ ap not (sym (holds_by_le Eq x y) ∙ h)

module _ (a b c d : ScalarValue) (a_b : value_le a b ≡ true) (c_d : value_le c d ≡ true) where
  module _ (P : ScalarValue → Type 0) (pa : P a) (pb : P b) (pc : P c) (pd : P d) where
    -- the low end of the first and the high end of the second
    low_high : (o : Operator) → test o a d ≡ true → Found P o a b c d
    low_high o h = record { x = a; y = d; x_is = pa; y_is = pd; a_x = le_refl a; x_b = a_b; c_y = c_d; y_d = le_refl d; holds = h }

    high_low : (o : Operator) → test o b c ≡ true → Found P o a b c d
    high_low o h = record { x = b; y = c; x_is = pb; y_is = pc; a_x = a_b; x_b = le_refl b; c_y = le_refl c; y_d = c_d; holds = h }

    -- the greater of the two low ends lies in both intervals
    common : (t : Bool) → value_le a c ≡ t → value_le a d ≡ true → value_le c b ≡ true → Found P Eq a b c d
    common true h a_d c_b = record { x = c; y = c; x_is = pc; y_is = pc; a_x = h; x_b = c_b; c_y = le_refl c; y_d = c_d; holds = equal c }
    common false h a_d c_b = record { x = a; y = a; x_is = pa; y_is = pa; a_x = le_refl a; x_b = a_b; c_y = le_total a c h; y_d = a_d; holds = equal a }

    -- where the falsifier's test fails, the comparison holds of two values among the ends
    pub find : (o : Operator) → is_comparison o ≡ true → apart o a b c d ≡ false → Found P o a b c d
    find Lte k h = low_high Lte (not_gt a d h)
    find Lt k h = low_high Lt (holds_by_le Lt a d ∙ ap not (not_gte a d h))
    find Gt k h = high_low Gt (holds_by_le Gt b c ∙ ap not h)
    find Gte k h = high_low Gte (holds_by_le Gte b c ∙ not_lt b c h)
    find Eq k h = let n = or_parts (test Gt a d) (test Gt c b) h in common (value_le a c) refl (not_gt a d n.0) (not_gt c b n.1)
    find NotEq k h = ⊎_elim (λ e. low_high NotEq (not_equal a d e)) (λ e. high_low NotEq (not_equal b c e)) (and_cases (test Eq a d) (test Eq b c) h)
    find And k h = cc
    find Or k h = cc

  module _ (x y : ScalarValue) (a_x : value_le a x ≡ true) (x_b : value_le x b ≡ true) (c_y : value_le c y ≡ true) (y_d : value_le y d ≡ true) where
    -- the first interval lies above the second
    above : test Gt a d ≡ true → value_le x y ≡ false
    above h = refuted (value_le x y) (λ e. clash (le_trans a y d (le_trans a x y a_x e) y_d) (gt_le a d h))

    below : test Gt c b ≡ true → value_le y x ≡ false
    below h = refuted (value_le y x) (λ e. clash (le_trans c x b (le_trans c y x c_y e) x_b) (gt_le c b h))

    up : value_le b c ≡ true → value_le x y ≡ true
    up h = le_trans x b y x_b (le_trans b c y h c_y)

    down : value_le d a ≡ true → value_le y x ≡ true
    down h = le_trans y d x y_d (le_trans d a x h a_x)

    -- where the falsifier's test passes, the comparison holds of no values of the intervals
    pub refute : (o : Operator) → apart o a b c d ≡ true → test o x y ≡ false
    refute Lte h = above h
    refute Lt h = holds_by_le Lt x y ∙ ap not (down (gte_le a d h))
    refute Gt h = holds_by_le Gt x y ∙ ap not (up h)
    refute Gte h = holds_by_le Gte x y ∙ refuted (value_le y x) (λ e. clash (le_trans c x b (le_trans c y x c_y e) x_b) (lt_le b c h))
    refute Eq h =
        ⊎_elim (λ k. holds_by_le Eq x y ∙ and_left (value_le x y) (value_le y x) (above k)) (λ k. holds_by_le Eq x y ∙ and_right (value_le x y) (value_le y x) (below k)) (or_cases (test Gt a d) (test Gt c b) h)
    refute NotEq h =
        let k = and_parts (test Eq a d) (test Eq b c) h in
        by_order NotEq x y true true (up (eq_le b c k.1).0) (down (eq_le a d k.0).1)
    refute And h = cc
    refute Or h = cc
