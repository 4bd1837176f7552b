-- Of floats of std that aren't NaN both meanings of a comparison say the same.
use Rattle.std.proofs.Common.{◌≡◌, Bool, true, false, refl, sym, ◌∙◌, ap, inl, inr, T}
use Rattle.std.specs.Prelude.{◌||◌, not as not_b, if◌then◌else◌}
use Rattle.std.specs.Float.{NotNan}
use Rattle.std.specs.Float.Ieee.{Float, nan, inf, fin, is_nan, lt, le, eq, ne}
use Rattle.std.specs.Float.Order.{lt_irrefl, lt_trans, lt-or-eq, eq_flip, eq-not_lt, le_of_not-lt}
use Rattle.std.specs.Ordering.{nan_last_cmp}
use Rattle.std.specs.declared.cmp.Ordering.{Ordering}
use Rattle.std.specs.declared.cmp.Ordering.TheVariants.{Less, Equal, Greater}
use Rattle.std.proofs.lemmas.Float.{T_from_true, T_from_false}
use lib.Ieee.Bits.{is_true}
use Rattle.vortex_logical.specs.declared.comparison.Comparison.{Comparison}
use Rattle.vortex_logical.specs.declared.comparison.Comparison.TheVariants as comparison
use Rattle.vortex_logical.specs.Meaning.{holds}
use Rattle.vortex_logical.specs.Halves.{of_nan}
use Rattle.vortex_logical.specs.Floats.{ieee_holds}

-- ---- two numbers: less, equal or greater

data Ordered (x y : Float) : Type 0 where
  below : lt x y ≡ true → eq x y ≡ false → lt y x ≡ false → Ordered x y
  level : lt x y ≡ false → eq x y ≡ true → lt y x ≡ false → Ordered x y
  above : lt x y ≡ false → eq x y ≡ false → lt y x ≡ true → Ordered x y

refuted : (b : Bool) → (T b → ⊥) → b ≡ false
refuted true h = absurd (h tt)
refuted false h = refl

ordered_by : (x y : Float) → NotNan x → NotNan y → (a b : Bool) → lt x y ≡ a → lt y x ≡ b → Ordered x y
ordered_by x y p q true b e f =
    let l : T (lt x y) = T_from_true (lt x y) e in
    below e (refuted (eq x y) (λ h. eq-not_lt x y h l)) (refuted (lt y x) (λ h. lt_irrefl x (lt_trans x y x l h)))
ordered_by x y p q false true e f =
    let l : T (lt y x) = T_from_true (lt y x) f in
    above e (refuted (eq x y) (λ h. eq-not_lt y x (eq_flip x y h) l)) f
ordered_by x y p q false false e f =
    let g = le_of_not-lt y x q p (T_from_false (lt y x) f) in
    elim (lt-or-eq x y g) [ inl l ↦ absurd (T_apart (lt x y) l e) | inr h ↦ level e (is_true (eq x y) h) f ]
  where
    T_apart : (b : Bool) → T b → b ≡ false → ⊥
    T_apart true t h = cc
    T_apart false t h = t

ordered : (x y : Float) → NotNan x → NotNan y → Ordered x y
ordered x y p q = ordered_by x y p q (lt x y) (lt y x) refl refl

-- of two numbers, both meanings say the same
abbrev order_by : Bool → Bool → Ordering
order_by a b = if a then Less else (if b then Greater else Equal)

number_order : (x y : Float) → is_nan x ≡ false → is_nan y ≡ false → nan_last_cmp x y ≡ order_by (lt x y) (lt y x)
number_order x y p q =
    ap (λ (z : Bool). if z then (if is_nan y then Equal else Greater) else (if is_nan y then Less else order_by (lt x y) (lt y x))) p
    ∙ ap (λ (z : Bool). if z then Less else order_by (lt x y) (lt y x)) q

abbrev by_bools : Comparison → Bool → Bool → Bool → Bool
by_bools comparison.Eq l e g = e
by_bools comparison.NotEq l e g = not_b e
by_bools comparison.Gt l e g = g
by_bools comparison.Gte l e g = g || e
by_bools comparison.Lt l e g = l
by_bools comparison.Lte l e g = l || e

eq_both_ways : (x y : Float) → Ordered x y → eq y x ≡ eq x y
eq_both_ways x y (below l e g) = refuted (eq y x) (λ h. T_is (eq x y) (eq_flip y x h) e) ∙ sym e
  where
    T_is : (b : Bool) → T b → b ≡ false → ⊥
    T_is true t h = cc
    T_is false t h = t
eq_both_ways x y (level l e g) = is_true (eq y x) (eq_flip x y (T_from_true (eq x y) e)) ∙ sym e
eq_both_ways x y (above l e g) = refuted (eq y x) (λ h. T_is (eq x y) (eq_flip y x h) e) ∙ sym e
  where
    T_is : (b : Bool) → T b → b ≡ false → ⊥
    T_is true t h = cc
    T_is false t h = t

ieee_bools : (c : Comparison) (x y : Float) → Ordered x y → ieee_holds c x y ≡ by_bools c (lt x y) (eq x y) (lt y x)
unfolding le ne
ieee_bools comparison.Eq x y o = refl
ieee_bools comparison.NotEq x y o = refl
ieee_bools comparison.Gt x y o = refl
ieee_bools comparison.Gte x y o = ap (λ (z : Bool). lt y x || z) (eq_both_ways x y o)
ieee_bools comparison.Lt x y o = refl
ieee_bools comparison.Lte x y o = refl

-- the three cases at a comparison
three : (c : Comparison) → (by_bools c true false false ≡ holds c Less) × (by_bools c false true false ≡ holds c Equal) × (by_bools c false false true ≡ holds c Greater)
three comparison.Eq = (refl, refl, refl)
three comparison.NotEq = (refl, refl, refl)
three comparison.Gt = (refl, refl, refl)
three comparison.Gte = (refl, refl, refl)
three comparison.Lt = (refl, refl, refl)
three comparison.Lte = (refl, refl, refl)

same_bools : (c : Comparison) {l e g l' e' g' : Bool} → l ≡ l' → e ≡ e' → g ≡ g' → by_bools c l e g ≡ by_bools c l' e' g'
same_bools c {l} {e} {g} {l'} {e'} {g'} p q r = ap (λ (z : Bool). by_bools c z e g) p ∙ ap (λ (z : Bool). by_bools c l' z g) q ∙ ap (λ (z : Bool). by_bools c l' e' z) r

same_order : {l g l' g' : Bool} → l ≡ l' → g ≡ g' → order_by l g ≡ order_by l' g'
same_order {l} {g} {l'} {g'} p q = ap (λ (z : Bool). order_by z g) p ∙ ap (order_by l') q

bools_hold : (c : Comparison) (x y : Float) → Ordered x y → by_bools c (lt x y) (eq x y) (lt y x) ≡ holds c (order_by (lt x y) (lt y x))
bools_hold c x y (below l e g) = same_bools c l e g ∙ (three c).0 ∙ ap (holds c) (sym (same_order l g))
bools_hold c x y (level l e g) = same_bools c l e g ∙ (three c).1 ∙ ap (holds c) (sym (same_order l g))
bools_hold c x y (above l e g) = same_bools c l e g ∙ (three c).2 ∙ ap (holds c) (sym (same_order l g))

pub numbers_hold : (c : Comparison) (x y : Float) → is_nan x ≡ false → is_nan y ≡ false → ieee_holds c x y ≡ holds c (nan_last_cmp x y)
numbers_hold c x y p q =
    let o = ordered x y (T_from_false (is_nan x) p) (T_from_false (is_nan y) q) in
    ieee_bools c x y o ∙ bools_hold c x y o ∙ ap (holds c) (sym (number_order x y p q))

-- ---- NaN

pub nan_left : (c : Comparison) (y : Float) → ieee_holds c nan y ≡ of_nan c
unfolding lt eq le ne
nan_left comparison.Eq y = refl
nan_left comparison.NotEq y = refl
nan_left comparison.Gt nan = refl
nan_left comparison.Gt (inf s) = refl
nan_left comparison.Gt (fin s m e) = refl
nan_left comparison.Gte nan = refl
nan_left comparison.Gte (inf s) = refl
nan_left comparison.Gte (fin s m e) = refl
nan_left comparison.Lt y = refl
nan_left comparison.Lte y = refl

pub nan_right : (c : Comparison) (x : Float) → ieee_holds c x nan ≡ of_nan c
unfolding lt eq le ne
nan_right comparison.Eq nan = refl
nan_right comparison.Eq (inf s) = refl
nan_right comparison.Eq (fin s m e) = refl
nan_right comparison.NotEq nan = refl
nan_right comparison.NotEq (inf s) = refl
nan_right comparison.NotEq (fin s m e) = refl
nan_right comparison.Gt x = refl
nan_right comparison.Gte x = refl
nan_right comparison.Lt nan = refl
nan_right comparison.Lt (inf s) = refl
nan_right comparison.Lt (fin s m e) = refl
nan_right comparison.Lte nan = refl
nan_right comparison.Lte (inf s) = refl
nan_right comparison.Lte (fin s m e) = refl
