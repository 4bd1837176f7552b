-- The bits of floats of 16 bits as whole numbers in their order.
use Rattle.std.proofs.Common.{◌≡◌, ℕ, zero, suc, ◌+◌, ◌*◌, ◌/◌, ◌%◌, ◌<◌, ◌≤◌, Bool, true, false, refl, sym, ◌∙◌, ap, arith, ◌⊎◌, inl, inr}
use Rattle.std.specs.Prelude.{ℤ, pos, neg_ℤ, nat_le, ◌==◌, if◌then◌else◌, ◌<ℤ◌}
use Rattle.std.specs.Ordering.{int_cmp}
use Rattle.std.specs.declared.cmp.Ordering.TheVariants.{Less, Greater}
use Rattle.std.proofs.lemmas.Int.{ints}
use Rattle.std.proofs.lemmas.Bool.Decides.{nat_tests}
use Rattle.std.proofs.Math.Nat.{mod-lt, div-add-mod'}
use Rattle.vortex_logical.specs.Halves.{Half, nan, infinite, finite, half_by, half_cmp, half_of, half_size, is_nan_half, signed}
use Rattle.vortex_logical.specs.Floats.{is_nan_bits, key, signed_key}
use Rattle.vortex_logical.specs.declared.float_type.FloatType.TheVariants.{F16}
use Rattle.vortex_logical.proofs.ByteOrder.{cases_nat}
use Rattle.vortex_logical.proofs.Orders.{is_less, is_greater, is_equal}
use Rattle.vortex_logical.proofs.FloatOrder.{side_above, side_below, size_mono, size_of}
use Rattle.vortex_logical.proofs.FloatKeys.{keys_cmp, over, under, signed_key-le}

-- ---- sizes

size_is : (x t : ℕ) → half_size x t ≡ size_of 1024 x t
size_is zero t = omega arith
size_is (suc x) t = refl

abbrev size_at : ℕ → ℕ
size_at m = size_of 1024 (m / 1024) (m % 1024)

size_at_mono : (m n : ℕ) → m < n → size_at m < size_at n
size_at_mono m n l =
    let p = div-add-mod' m 1024 in
    let q = div-add-mod' n 1024 in
    size_mono 1024 (m / 1024) (m % 1024) (n / 1024) (n % 1024) (mod-lt m (omega arith)) (mod-lt n (omega arith)) (omega arith)

abbrev big : ℕ
big = size_of 1024 31 0

-- ---- what the bits stand for

-- a number of that sign and size, or the infinity of that sign
abbrev IsSeen : Half → Bool → ℕ → Type 0
IsSeen x s a = ((x ≡ finite s a) × (a < big)) ⊎ ((x ≡ infinite s) × (a ≡ big))

differs : (x y : ℕ) → x < y → (x == y) ≡ false
differs x y h = grind (arith, nat_tests)

exceeds : (t : ℕ) → 0 < t → (t == 0) ≡ false
exceeds t h = grind (arith, nat_tests)

finite_by : (s : Bool) (x t : ℕ) → x < 31 → half_by s x t ≡ finite s (size_of 1024 x t)
finite_by s x t h = ap (λ z. if z then (if t == 0 then infinite s else nan) else finite s (half_size x t)) (differs x 31 h) ∙ ap (finite s) (size_is x t)

under_ones : (x t m : ℕ) → x * 1024 + t ≡ m → t < 1024 → x < 31 → m < 31_744
under_ones x t m e l less = omega arith

seen_by : (s : Bool) (x t m : ℕ) → x * 1024 + t ≡ m → t < 1024 → m ≤ 31_744 → x ≤ 31 → IsSeen (half_by s x t) s (size_of 1024 x t)
seen_by s x t m e l r o =
    cases_nat x 31
    (λ less. inl (finite_by s x t less, size_mono 1024 x t 31 0 l (omega arith) (omega arith)))
    (λ same.
    let z : t ≡ 0 = omega arith in
    inr (ap (λ y. half_by s y t) same ∙ ap (half_by s 31) z, ap (λ y. size_of 1024 y t) same ∙ ap (size_of 1024 31) z))
    (λ more. absurd (omega arith))

exponent_short : (m : ℕ) → m < 32_768 → m / 1024 ≤ 31
exponent_short m h = let p = div-add-mod' m 1024 in omega arith

seen : (b : ℕ) → b % 32_768 ≤ 31_744 → IsSeen (half_of b) (nat_le 32_768 b) (size_at (b % 32_768))
seen b r =
    let m = b % 32_768 in
    seen_by (nat_le 32_768 b) (m / 1024) (m % 1024) m (div-add-mod' m 1024) (mod-lt m (omega arith)) r (exponent_short m (mod-lt b (omega arith)))

nan_by : (s : Bool) (x t m : ℕ) → x * 1024 + t ≡ m → t < 1024 → 31_744 < m → x ≤ 31 → half_by s x t ≡ nan
nan_by s x t m e l r o =
    cases_nat x 31
    (λ less. absurd (omega arith))
    (λ same. ap (λ y. half_by s y t) same ∙ ap (λ z. if z then infinite s else nan) (exceeds t (omega arith)))
    (λ more. absurd (omega arith))

pub nan_half_is : (b : ℕ) → 31_744 < b % 32_768 → half_of b ≡ nan
nan_half_is b r =
    let m = b % 32_768 in
    nan_by (nat_le 32_768 b) (m / 1024) (m % 1024) m (div-add-mod' m 1024) (mod-lt m (omega arith)) r (exponent_short m (mod-lt b (omega arith)))

not_nan : (x : Half) (s : Bool) (a : ℕ) → IsSeen x s a → is_nan_half x ≡ false
not_nan x s a (inl h) = ap is_nan_half h.0
not_nan x s a (inr h) = ap is_nan_half h.0

-- ---- the order of the values

infinities : (s t : Bool) (b : ℕ) → 0 < b → int_cmp (signed s 1) (signed t 1) ≡ int_cmp (signed s b) (signed t b)
infinities false false b h = is_equal (pos 1) (pos 1) refl ∙ sym (is_equal (pos b) (pos b) refl)
infinities true true b h = is_equal (neg_ℤ (pos 1)) (neg_ℤ (pos 1)) refl ∙ sym (is_equal (neg_ℤ (pos b)) (neg_ℤ (pos b)) refl)
infinities false true b h = is_greater (pos 1) (neg_ℤ (pos 1)) (omega (arith, ints)) ∙ sym (is_greater (pos b) (neg_ℤ (pos b)) (omega (arith, ints)))
infinities true false b h = is_less (neg_ℤ (pos 1)) (pos 1) (omega (arith, ints)) ∙ sym (is_less (neg_ℤ (pos b)) (pos b) (omega (arith, ints)))

seen_cmp : (x y : Half) (s t : Bool) (a b : ℕ) → IsSeen x s a → IsSeen y t b → half_cmp x y ≡ int_cmp (signed s a) (signed t b)
seen_cmp x y s t a b (inl h) (inl k) = ap (λ z. half_cmp z y) h.0 ∙ ap (half_cmp (finite s a)) k.0
seen_cmp x y s t a b (inl h) (inr k) =
    let l = h.1 in let e = k.1 in
    ap (λ z. half_cmp z y) h.0 ∙ ap (half_cmp (finite s a)) k.0 ∙ sym (side_below s t a b (omega arith))
seen_cmp x y s t a b (inr h) (inl k) =
    let l = k.1 in let e = h.1 in
    ap (λ z. half_cmp z y) h.0 ∙ ap (half_cmp (infinite s)) k.0 ∙ sym (side_above s t a b (omega arith))
seen_cmp x y s t a b (inr h) (inr k) =
    ap (λ z. half_cmp z y) h.0 ∙ ap (half_cmp (infinite s)) k.0 ∙ infinities s t big (omega arith)
    ∙ ap (λ z. int_cmp (signed s z) (signed t big)) (sym h.1) ∙ ap (λ z. int_cmp (signed s a) (signed t z)) (sym k.1)

nan_above : (y : Half) → is_nan_half y ≡ false → half_cmp nan y ≡ Greater
nan_above nan h = cc
nan_above (infinite s) h = refl
nan_above (finite s a) h = refl

nan_below : (x : Half) → is_nan_half x ≡ false → half_cmp x nan ≡ Less
nan_below nan h = cc
nan_below (infinite s) h = refl
nan_below (finite s a) h = refl

number_below : (s : Bool) (m : ℕ) → m ≤ 31_744 → signed_key s m <ℤ pos 32_256
number_below s m h = let k = signed_key-le s m in omega (arith, ints)

abbrev key_by : ℕ → Bool → ℤ
key_by b z = if z then pos 32_256 else signed_key (nat_le 32_768 b) (b % 32_768)

halves_by : (a b : ℕ) (y z : Bool) → is_nan_bits F16 a ≡ y → is_nan_bits F16 b ≡ z → half_cmp (half_of a) (half_of b) ≡ int_cmp (key_by a y) (key_by b z)
halves_by a b true true p q =
    ap (λ x. half_cmp x (half_of b)) (nan_half_is a (over _ _ p)) ∙ ap (half_cmp nan) (nan_half_is b (over _ _ q)) ∙ sym (is_equal (pos 32_256) (pos 32_256) refl)
halves_by a b true false p q =
    ap (λ x. half_cmp x (half_of b)) (nan_half_is a (over _ _ p)) ∙ nan_above (half_of b) (not_nan _ _ _ (seen b (under _ _ q)))
    ∙ sym (is_greater (pos 32_256) (key_by b false) (number_below (nat_le 32_768 b) (b % 32_768) (under _ _ q)))
halves_by a b false true p q =
    ap (half_cmp (half_of a)) (nan_half_is b (over _ _ q)) ∙ nan_below (half_of a) (not_nan _ _ _ (seen a (under _ _ p)))
    ∙ sym (is_less (key_by a false) (pos 32_256) (number_below (nat_le 32_768 a) (a % 32_768) (under _ _ p)))
halves_by a b false false p q =
    seen_cmp (half_of a) (half_of b) (nat_le 32_768 a) (nat_le 32_768 b) (size_at (a % 32_768)) (size_at (b % 32_768)) (seen a (under _ _ p)) (seen b (under _ _ q))
    ∙ keys_cmp size_at size_at_mono refl (nat_le 32_768 a) (nat_le 32_768 b) (a % 32_768) (b % 32_768)

pub halves_cmp : (a b : ℕ) → half_cmp (half_of a) (half_of b) ≡ int_cmp (key F16 a) (key F16 b)
halves_cmp a b = halves_by a b (is_nan_bits F16 a) (is_nan_bits F16 b) refl refl

nan_bits_by : (b : ℕ) (z : Bool) → is_nan_bits F16 b ≡ z → is_nan_half (half_of b) ≡ z
nan_bits_by b true p = ap is_nan_half (nan_half_is b (over _ _ p))
nan_bits_by b false p = not_nan _ _ _ (seen b (under _ _ p))

pub nan_bits_are : (b : ℕ) → is_nan_half (half_of b) ≡ is_nan_bits F16 b
nan_bits_are b = nan_bits_by b (is_nan_bits F16 b) refl
