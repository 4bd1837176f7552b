-- Comparisons of floats with a literal are tests of their whole numbers.
use Rattle.std.proofs.Common.{◌≡◌, ℕ, ◌<◌, ◌≤◌, ◌%◌, Bool, true, false, refl, sym, subst, ◌∙◌, ap, arith, ◌⊎◌, inl, inr}
use Rattle.std.specs.Prelude.{ℤ, pos, ◌&&◌, ◌||◌, nat_le, nat_lt, int_lt, None, if◌then◌else◌, ◌<ℤ◌, ◌≤ℤ◌}
use Rattle.std.specs.Float.Ieee.{Float, binary32, binary64, of_bits}
use Rattle.std.specs.Ordering.{int_cmp, is_gt, is_le, is_ge}
use Rattle.std.specs.declared.cmp.Ordering.{Ordering}
use Rattle.std.specs.declared.cmp.Ordering.TheVariants.{Greater}
use Rattle.std.proofs.lemmas.Int.{ints}
use Rattle.std.proofs.lemmas.Bool.Decides.{nat_tests}
use Rattle.vortex_logical.specs.declared.comparison.Comparison.{Comparison}
use Rattle.vortex_logical.specs.declared.comparison.Comparison.TheVariants as comparison
use Rattle.vortex_logical.specs.declared.float_type.FloatType.{FloatType}
use Rattle.vortex_logical.specs.declared.float_type.FloatType.TheVariants.{F16, F32, F64}
use Rattle.vortex_logical.specs.declared.float_test.FloatTest.{FloatTest}
use Rattle.vortex_logical.specs.Meaning.{holds}
use Rattle.vortex_logical.specs.Halves.{Half, half_cmp, half_ieee, half_of, is_nan_half, of_nan}
use Rattle.vortex_logical.specs.Floats.{below_holds, bound_of, float_cmp, float_test, float_test_holds, ieee_holds, ieee_is, ieee_test, infinity_bits, is_nan_bits, key, nan_bits, nan_comparison, sign_bit, signed_key}
use Rattle.vortex_logical.proofs.Orders.{is_less, is_greater, is_equal, cases_int}
use Rattle.vortex_logical.proofs.Bounded.{le_whole}
use Rattle.vortex_logical.proofs.FloatKeys.{floats_cmp, nan_is, number_is, signed_key-le}
use Rattle.vortex_logical.proofs.FloatMeanings.{nan_left, nan_right, numbers_hold}
use Rattle.vortex_logical.proofs.HalfKeys.{halves_cmp, nan_bits_are}

-- ---- the test of whole numbers

lt_true : (x y : ℤ) → x <ℤ y → int_lt x y ≡ true
lt_true x y h = grind (arith, ints)

lt_itself : (x : ℤ) → int_lt x x ≡ false
lt_itself x = grind (arith, ints)

and_true : (b : Bool) → (b && true) ≡ b
and_true true = refl
and_true false = refl

at_most_gt : (x y : ℤ) → x ≤ℤ y → is_gt (int_cmp x y) ≡ false
at_most_gt x y h = cases_int x y (λ l. ap is_gt (is_less x y l)) (λ e. ap is_gt (is_equal x y e)) (λ g. absurd (omega (arith, ints)))

at_most_le : (x y : ℤ) → x ≤ℤ y → is_le (int_cmp x y) ≡ true
at_most_le x y h = cases_int x y (λ l. ap is_le (is_less x y l)) (λ e. ap is_le (is_equal x y e)) (λ g. absurd (omega (arith, ints)))

never_is : (c : Comparison) (x y : ℤ) → x ≤ℤ y → float_test_holds x (float_test (nan_comparison c) y None) ≡ of_nan c
never_is comparison.Eq x y h = and_true _ ∙ at_most_gt x y h
never_is comparison.NotEq x y h = and_true _ ∙ at_most_le x y h
never_is comparison.Gt x y h = and_true _ ∙ at_most_gt x y h
never_is comparison.Gte x y h = and_true _ ∙ at_most_gt x y h
never_is comparison.Lt x y h = and_true _ ∙ at_most_gt x y h
never_is comparison.Lte x y h = and_true _ ∙ at_most_gt x y h

-- at a NaN, whose number is above the literal's
abbrev nan_test : FloatType → Comparison → Ordering → Bool
nan_test f c o = holds c o && below_holds (pos (nan_bits f)) (bound_of f c)

at_nan : (f : FloatType) (c : Comparison) → nan_test f c Greater ≡ of_nan c
at_nan f comparison.Eq = refl
at_nan f comparison.NotEq = refl
at_nan f comparison.Gt = lt_itself (pos (nan_bits f))
at_nan f comparison.Gte = lt_itself (pos (nan_bits f))
at_nan f comparison.Lt = refl
at_nan f comparison.Lte = refl

at_number : (f : FloatType) (c : Comparison) (x : ℤ) (o : Ordering) → x <ℤ pos (nan_bits f) → (holds c o && below_holds x (bound_of f c)) ≡ holds c o
at_number f comparison.Eq x o h = and_true _
at_number f comparison.NotEq x o h = and_true _
at_number f comparison.Gt x o h = ap (λ (z : Bool). is_gt o && z) (lt_true x (pos (nan_bits f)) h) ∙ and_true _
at_number f comparison.Gte x o h = ap (λ (z : Bool). is_ge o && z) (lt_true x (pos (nan_bits f)) h) ∙ and_true _
at_number f comparison.Lt x o h = and_true _
at_number f comparison.Lte x o h = and_true _

-- ---- what each type of floats owes

float_cmp_is : (f : FloatType) (a b : ℕ) → float_cmp f a b ≡ int_cmp (key f a) (key f b)
float_cmp_is F16 a b = halves_cmp a b
float_cmp_is F32 a b = floats_cmp binary32 a b
float_cmp_is F64 a b = floats_cmp binary64 a b

pub floats_compare : (f : FloatType) (a b : ℕ) → float_cmp f a b ≡ int_cmp (key f a) (key f b)
floats_compare f a b = float_cmp_is f a b

over : (m n : ℕ) → nat_lt m n ≡ true → m < n
over m n h = grind (arith, nat_tests)

under : (m n : ℕ) → nat_lt m n ≡ false → n ≤ m
under m n h = grind (arith, nat_tests)

half_number : (c : Comparison) (x y : Half) → is_nan_half x ≡ false → is_nan_half y ≡ false → half_ieee c x y ≡ holds c (half_cmp x y)
half_number c x y h k = ap (λ z. if z || is_nan_half y then of_nan c else holds c (half_cmp x y)) h ∙ ap (λ z. if z then of_nan c else holds c (half_cmp x y)) k

half_left : (c : Comparison) (x y : Half) → is_nan_half x ≡ true → half_ieee c x y ≡ of_nan c
half_left c x y h = ap (λ z. if z || is_nan_half y then of_nan c else holds c (half_cmp x y)) h

either_true : (a b : Bool) → b ≡ true → (a || b) ≡ true
either_true true b h = refl
either_true false b h = h

half_right : (c : Comparison) (x y : Half) → is_nan_half y ≡ true → half_ieee c x y ≡ of_nan c
half_right c x y h = ap (λ z. if z then of_nan c else holds c (half_cmp x y)) (either_true (is_nan_half x) (is_nan_half y) h)

-- of numbers both meanings say the same
numbers_agree : (f : FloatType) (c : Comparison) (a b : ℕ) → is_nan_bits f a ≡ false → is_nan_bits f b ≡ false → ieee_is f c a b ≡ holds c (float_cmp f a b)
numbers_agree F16 c a b h k = half_number c (half_of a) (half_of b) (nan_bits_are a ∙ h) (nan_bits_are b ∙ k)
numbers_agree F32 c a b h k = numbers_hold c (of_bits binary32 a) (of_bits binary32 b) (number_is binary32 a (under _ _ h)) (number_is binary32 b (under _ _ k))
numbers_agree F64 c a b h k = numbers_hold c (of_bits binary64 a) (of_bits binary64 b) (number_is binary64 a (under _ _ h)) (number_is binary64 b (under _ _ k))

nan_on_left : (f : FloatType) (c : Comparison) (a b : ℕ) → is_nan_bits f a ≡ true → ieee_is f c a b ≡ of_nan c
nan_on_left F16 c a b h = half_left c (half_of a) (half_of b) (nan_bits_are a ∙ h)
nan_on_left F32 c a b h = ap (λ (x : Float). ieee_holds c x (of_bits binary32 b)) (nan_is binary32 a (over _ _ h)) ∙ nan_left c (of_bits binary32 b)
nan_on_left F64 c a b h = ap (λ (x : Float). ieee_holds c x (of_bits binary64 b)) (nan_is binary64 a (over _ _ h)) ∙ nan_left c (of_bits binary64 b)

nan_on_right : (f : FloatType) (c : Comparison) (a b : ℕ) → is_nan_bits f b ≡ true → ieee_is f c a b ≡ of_nan c
nan_on_right F16 c a b h = half_right c (half_of a) (half_of b) (nan_bits_are b ∙ h)
nan_on_right F32 c a b h = ap (ieee_holds c (of_bits binary32 a)) (nan_is binary32 b (over _ _ h)) ∙ nan_right c (of_bits binary32 a)
nan_on_right F64 c a b h = ap (ieee_holds c (of_bits binary64 a)) (nan_is binary64 b (over _ _ h)) ∙ nan_right c (of_bits binary64 a)

-- ---- the numbers of floats

abbrev key_by : FloatType → ℕ → Bool → ℤ
key_by f b z = if z then pos (nan_bits f) else signed_key (nat_le (sign_bit f) b) (b % sign_bit f)

key_of_nan : (f : FloatType) (b : ℕ) → is_nan_bits f b ≡ true → key f b ≡ pos (nan_bits f)
key_of_nan f b h = ap (key_by f b) h

infinity_below : (f : FloatType) → infinity_bits f < nan_bits f
infinity_below F16 = omega arith
infinity_below F32 = omega arith
infinity_below F64 = omega arith

key_below : (f : FloatType) (b : ℕ) → is_nan_bits f b ≡ false → key f b <ℤ pos (nan_bits f)
key_below f b h =
    let P : ℤ → Type 0 = λ z. z <ℤ pos (nan_bits f) in
    let k = signed_key-le (nat_le (sign_bit f) b) (b % sign_bit f) in
    let u = under _ _ h in
    let n = infinity_below f in
    let below : key_by f b false <ℤ pos (nan_bits f) = omega (arith, ints) in
    subst P (sym (ap (key_by f b) h)) below

key_at_most_by : (f : FloatType) (b : ℕ) (t : Bool) → is_nan_bits f b ≡ t → key f b ≤ℤ pos (nan_bits f)
key_at_most_by f b true h = let e = key_of_nan f b h in omega (arith, ints)
key_at_most_by f b false h = let l = key_below f b h in omega (arith, ints)

pub key_at_most : (f : FloatType) (b : ℕ) → key f b ≤ℤ pos (nan_bits f)
key_at_most f b = key_at_most_by f b (is_nan_bits f b) refl

-- ---- the tests

with_number : (f : FloatType) (c : Comparison) (b l : ℕ) → is_nan_bits f l ≡ false → (t : Bool) → is_nan_bits f b ≡ t
    → ieee_is f c b l ≡ float_test_holds (key f b) (float_test c (key f l) (bound_of f c))
with_number f c b l e true h =
    let k : key f l <ℤ pos (nan_bits f) = key_below f l e in
    nan_on_left f c b l h ∙ sym (at_nan f c)
    ∙ sym (ap (nan_test f c) (is_greater (pos (nan_bits f)) (key f l) k))
    ∙ sym (ap (λ (x : ℤ). float_test_holds x (float_test c (key f l) (bound_of f c))) (key_of_nan f b h))
with_number f c b l e false h =
    numbers_agree f c b l h e ∙ ap (holds c) (float_cmp_is f b l)
    ∙ sym (at_number f c (key f b) (int_cmp (key f b) (key f l)) (key_below f b h))

abbrev ieee_by : FloatType → Comparison → ℕ → Bool → FloatTest
ieee_by f c b t = if t then float_test (nan_comparison c) (key f b) None else float_test c (key f b) (bound_of f c)

ieee_test_by : (f : FloatType) (c : Comparison) (b l : ℕ) (t : Bool) → is_nan_bits f l ≡ t → ieee_is f c b l ≡ float_test_holds (key f b) (ieee_by f c l t)
ieee_test_by f c b l true e =
    let n : key f l ≡ pos (nan_bits f) = key_of_nan f l e in
    let m : key f b ≤ℤ pos (nan_bits f) = key_at_most f b in
    let k : key f b ≤ℤ key f l = omega (arith, ints) in
    nan_on_right f c b l e ∙ sym (never_is c (key f b) (key f l) k)
ieee_test_by f c b l false e = with_number f c b l e (is_nan_bits f b) refl

pub ieee_test_is : (f : FloatType) (c : Comparison) (b l : ℕ) → ieee_is f c b l ≡ float_test_holds (key f b) (ieee_test f c l)
ieee_test_is f c b l = ieee_test_by f c b l (is_nan_bits f l) refl

pub greatest_test_is : (f : FloatType) (c : Comparison) (b l : ℕ) → holds c (float_cmp f b l) ≡ float_test_holds (key f b) (float_test c (key f l) None)
greatest_test_is f c b l = ap (holds c) (float_cmp_is f b l) ∙ sym (and_true _)

-- ---- bounds

pub least_below : (f : FloatType) (a v : ℕ) → (is_nan_bits f v ≡ true) ⊎ (is_le (float_cmp f a v) ≡ true) → key f a ≤ℤ key f v
least_below f a v (inl n) = let k = key_of_nan f v n in let m = key_at_most f a in omega (arith, ints)
least_below f a v (inr l) = le_whole (key f a) (key f v) (ap is_le (sym (float_cmp_is f a v)) ∙ l)

pub greatest_above : (f : FloatType) (v b : ℕ) → is_le (float_cmp f v b) ≡ true → key f v ≤ℤ key f b
greatest_above f v b l = le_whole (key f v) (key f b) (ap is_le (sym (float_cmp_is f v b)) ∙ l)
