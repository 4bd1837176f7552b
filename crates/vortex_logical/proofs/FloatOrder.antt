-- Two floats compare as their whole numbers.
use Rattle.std.proofs.Common.{◌≡◌, ℕ, zero, suc, ◌+◌, ◌*◌, ◌^◌, ◌<◌, ◌≤◌, Bool, true, false, refl, sym, ◌∙◌, ap, arith, ◌⊎◌, inl, inr}
use Rattle.std.specs.Prelude.{ℤ, pos, negsuc, neg_ℤ, nat_lt, if◌then◌else◌, ◌<ℤ◌}
use Rattle.std.specs.Float.Ieee.{Float, nan, inf, fin, is_nan, lt, up, down}
use Rattle.std.specs.Float.Order.{lt_at}
use lib.Ieee.Exact.{HasValue}
use lib.Ieee.Fits.{down_pos}
use borrow.Author.Tests.{lt-ltb, le-ltb}
use Rattle.std.specs.Ordering.{nan_last_cmp, int_cmp}
use Rattle.std.specs.declared.cmp.Ordering.TheVariants.{Less, Equal, Greater}
use Rattle.std.proofs.lemmas.Int.{ints}
use Rattle.std.proofs.lemmas.Nat.{pow_pos}
use Rattle.std.proofs.Math.Nat.{mul-le-mul_right, mul-lt-mul_of_pos_right, pow-le-pow_right, pow-succ', mul-le-mul, mul-pos}
use Rattle.std.proofs.lemmas.Bool.{cases_order}
use Rattle.vortex_logical.specs.Halves.{signed}
use Rattle.vortex_logical.proofs.ByteOrder.{cases_nat}
use Rattle.vortex_logical.proofs.Orders.{is_less, is_greater, is_equal}

-- ---- the size of a number, in units of the least one above 0

abbrev pub size_of : ℕ → ℕ → ℕ → ℕ
size_of h zero t = t * 2 ^ 0
size_of h (suc x) t = (h + t) * 2 ^ x

same_field : (h x t u : ℕ) → t < u → (h + t) * 2 ^ x < (h + u) * 2 ^ x
same_field h x t u l = mul-lt-mul_of_pos_right {m = h + t} {n = h + u} (omega arith) (pow_pos x)

doubled : (h x : ℕ) → (h + h) * 2 ^ x ≡ h * 2 ^ suc x
doubled h x = let e : 2 ^ suc x ≡ 2 * 2 ^ x = pow-succ' 2 x in sym (ap (λ (z : ℕ). h * z) e ∙ omega arith)

next_field : (h x y t u : ℕ) → t < h → x < y → (h + t) * 2 ^ x < (h + u) * 2 ^ y
next_field h x y t u l less =
    let a : (h + t) * 2 ^ x < (h + h) * 2 ^ x = mul-lt-mul_of_pos_right {m = h + t} {n = h + h} (omega arith) (pow_pos x) in
    let p : 2 ^ suc x ≤ 2 ^ y = pow-le-pow_right {n = 2} (omega arith) less in
    let b : h * 2 ^ suc x ≤ h * 2 ^ y = mul-le-mul {n₁ = h} {n₂ = h} (omega arith) p in
    let d = doubled h x in
    omega arith

fields_apart : (h x y t u : ℕ) → u < h → y < x → x * h + t < y * h + u → ⊥
fields_apart h x y t u l less o =
    let p : suc y * h ≤ x * h = mul-le-mul_right {m = suc y} {n = x} h less in
    omega arith

pub size_mono : (h x t y u : ℕ) → t < h → u < h → x * h + t < y * h + u → size_of h x t < size_of h y u
size_mono h zero t zero u p q l = omega arith
size_mono h zero t (suc y) u p q l =
    let a : (h + u) * 1 ≤ (h + u) * 2 ^ y = mul-le-mul {n₁ = h + u} {n₂ = h + u} (omega arith) (pow_pos y) in
    omega arith
size_mono h (suc x) t zero u p q l = absurd (fields_apart h (suc x) 0 t u q (omega arith) l)
size_mono h (suc x) t (suc y) u p q l =
    elim (cases_order x y) [
      | inl e ↦
          let f : suc x * h ≡ suc y * h = ap (λ (z : ℕ). suc z * h) e in
          let g : (h + u) * 2 ^ x ≡ (h + u) * 2 ^ y = ap (λ (z : ℕ). (h + u) * 2 ^ z) e in
          let k = same_field h x t u (omega arith) in
          omega arith
      | inr o ↦ elim o [ inl less ↦ next_field h x y t u p less | inr more ↦ absurd (fields_apart h (suc x) (suc y) t u q (omega arith) l) ]
    ]

-- ---- two finite numbers

nothing : (x c a d : ℕ) → x * c ≡ a * d → 0 < c → a ≡ 0 → x ≡ 0
nothing zero c a d e p z = refl
nothing (suc x) c a d e p z =
    let q : 0 < suc x * c = mul-pos (omega arith) p in
    let w : a * d ≡ 0 * d = ap (λ (y : ℕ). y * d) z in
    absurd (omega arith)

something : (x c a d : ℕ) → x * c ≡ a * d → 0 < d → 0 < a → 0 < x
something zero c a d e p z = let q : 0 < a * d = mul-pos z p in absurd (omega arith)
something (suc x) c a d e p z = omega arith

smaller : (a b c : ℕ) → 0 < c → nat_lt (a * c) (b * c) ≡ nat_lt a b
smaller a b c p =
    cases_nat a b
    (λ l. lt-ltb _ _ (mul-lt-mul_of_pos_right l p) ∙ sym (lt-ltb a b l))
    (λ e. le-ltb _ _ (mul-le-mul_right {m = b} {n = a} c (omega arith)) ∙ sym (le-ltb a b (omega arith)))
    (λ g. le-ltb _ _ (mul-le-mul_right {m = b} {n = a} c (omega arith)) ∙ sym (le-ltb a b (omega arith)))

-- what the tests of two sizes say
by_tests : (x y : Bool) (a b : ℤ) (p : ℕ) (q : ℕ) → x ≡ nat_lt p q → y ≡ nat_lt q p → (p < q → a <ℤ b) → (p ≡ q → a ≡ b) → (q < p → b <ℤ a)
    → (if x then Less else (if y then Greater else Equal)) ≡ int_cmp a b
by_tests x y a b p q e f l m g =
    ap (λ (z : Bool). if z then Less else (if y then Greater else Equal)) e ∙ ap (λ (z : Bool). if nat_lt p q then Less else (if z then Greater else Equal)) f
    ∙ cases_nat p q
    (λ h. ap (λ (z : Bool). if z then Less else (if nat_lt q p then Greater else Equal)) (lt-ltb p q h) ∙ sym (is_less a b (l h)))
    (λ h. ap (λ (z : Bool). if z then Less else (if nat_lt q p then Greater else Equal)) (le-ltb p q (omega arith)) ∙ ap (λ (z : Bool). if z then Greater else Equal) (le-ltb q p (omega arith)) ∙ sym (is_equal a b (m h)))
    (λ h. ap (λ (z : Bool). if z then Less else (if nat_lt q p then Greater else Equal)) (le-ltb p q (omega arith)) ∙ ap (λ (z : Bool). if z then Greater else Equal) (lt-ltb q p h) ∙ sym (is_greater a b (g h)))

-- of two numbers of unlike signs one is not 0
opposite : (x y de dd a b c : ℕ) → 0 < c → 0 < de → 0 < dd → x * c ≡ a * de → y * c ≡ b * dd → nat_lt 0 (x * dd + y * de) ≡ nat_lt 0 (a + b)
opposite x y de dd zero zero c p q r h k =
    let f : x ≡ 0 = nothing x c 0 de h p refl in
    let g : y ≡ 0 = nothing y c 0 dd k p refl in
    let i : x * dd ≡ 0 * dd = ap (λ (z : ℕ). z * dd) f in
    let j : y * de ≡ 0 * de = ap (λ (z : ℕ). z * de) g in
    le-ltb 0 _ (omega arith) ∙ sym (le-ltb 0 (0 + 0) (omega arith))
opposite x y de dd (suc a) b c p q r h k =
    let f : 0 < x * dd = mul-pos (something x c (suc a) de h q (omega arith)) r in
    lt-ltb 0 _ (omega arith) ∙ sym (lt-ltb 0 (suc a + b) (omega arith))
opposite x y de dd zero (suc b) c p q r h k =
    let f : 0 < y * de = mul-pos (something y c (suc b) dd k r (omega arith)) q in
    lt-ltb 0 _ (omega arith) ∙ sym (lt-ltb 0 (zero + suc b) (omega arith))

below_above : (a b : ℕ) → (if nat_lt 0 (a + b) then Less else Equal) ≡ int_cmp (neg_ℤ (pos a)) (pos b)
below_above zero zero = refl
below_above (suc a) b = ap (λ (z : Bool). if z then Less else Equal) (lt-ltb 0 (suc a + b) (omega arith)) ∙ sym (is_less (negsuc a) (pos b) (omega (arith, ints)))
below_above zero (suc b) = ap (λ (z : Bool). if z then Less else Equal) (lt-ltb 0 (zero + suc b) (omega arith)) ∙ sym (is_less (pos 0) (pos (suc b)) (omega (arith, ints)))

above_below : (a b : ℕ) → (if nat_lt 0 (b + a) then Greater else Equal) ≡ int_cmp (pos a) (neg_ℤ (pos b))
above_below zero zero = refl
above_below a (suc b) = ap (λ (z : Bool). if z then Greater else Equal) (lt-ltb 0 (suc b + a) (omega arith)) ∙ sym (is_greater (pos a) (negsuc b) (omega (arith, ints)))
above_below (suc a) zero = ap (λ (z : Bool). if z then Greater else Equal) (lt-ltb 0 (zero + suc a) (omega arith)) ∙ sym (is_greater (pos (suc a)) (pos 0) (omega (arith, ints)))

fins_cmp : (s t : Bool) (m n a b c : ℕ) (e d : ℤ) → 0 < c → m * up e * c ≡ a * down e → n * up d * c ≡ b * down d → nan_last_cmp (fin s m e) (fin t n d) ≡ int_cmp (signed s a) (signed t b)
unfolding lt is_nan
fins_cmp false false m n a b c e d p h k =
    by_tests _ _ (pos a) (pos b) a b (lt_at (fin false m e) (fin false n d) a c b c p p (refl, h) (refl, k) ∙ smaller a b c p) (lt_at (fin false n d) (fin false m e) b c a c p p (refl, k) (refl, h) ∙ smaller b a c p)
    (λ l. omega (arith, ints)) (λ l. ap pos l) (λ l. omega (arith, ints))
fins_cmp true true m n a b c e d p h k =
    by_tests _ _ (neg_ℤ (pos a)) (neg_ℤ (pos b)) b a (lt_at (fin false n d) (fin false m e) b c a c p p (refl, k) (refl, h) ∙ smaller b a c p) (lt_at (fin false m e) (fin false n d) a c b c p p (refl, h) (refl, k) ∙ smaller a b c p)
    (λ l. omega (arith, ints)) (λ l. ap (λ (z : ℕ). neg_ℤ (pos z)) (sym l)) (λ l. omega (arith, ints))
fins_cmp true false m n a b c e d p h k =
    ap (λ (z : Bool). if z then Less else Equal) (opposite (m * up e) (n * up d) (down e) (down d) a b c p (down_pos e) (down_pos d) h k) ∙ below_above a b
fins_cmp false true m n a b c e d p h k =
    ap (λ (z : Bool). if z then Greater else Equal) (opposite (n * up d) (m * up e) (down d) (down e) b a c p (down_pos d) (down_pos e) k h) ∙ above_below a b

finite_cmp : (x y : Float) (s t : Bool) (a b c : ℕ) → 0 < c → HasValue x s a c → HasValue y t b c → nan_last_cmp x y ≡ int_cmp (signed s a) (signed t b)
finite_cmp nan y s t a b c p h k = absurd h
finite_cmp (inf r) y s t a b c p h k = absurd h
finite_cmp (fin r m e) nan s t a b c p h k = absurd k
finite_cmp (fin r m e) (inf q) s t a b c p h k = absurd k
finite_cmp (fin r m e) (fin q n d) s t a b c p h k =
    ap (λ (z : Bool). nan_last_cmp (fin z m e) (fin q n d)) h.0 ∙ ap (λ (z : Bool). nan_last_cmp (fin s m e) (fin z n d)) k.0
    ∙ fins_cmp s t m n a b c e d p h.1 k.1

-- ---- infinities

-- a number of that sign and size, or the infinity of that sign
abbrev pub IsSeen : Float → Bool → ℕ → ℕ → ℕ → Type 0
IsSeen x s a big c = (HasValue x s a c × (a < big)) ⊎ ((x ≡ inf s) × (a ≡ big))

pub side_below : (s t : Bool) (a b : ℕ) → a < b → int_cmp (signed s a) (signed t b) ≡ (if t then Greater else Less)
side_below false false a b h = is_less (pos a) (pos b) (omega (arith, ints))
side_below true false a b h = is_less (neg_ℤ (pos a)) (pos b) (omega (arith, ints))
side_below false true a b h = is_greater (pos a) (neg_ℤ (pos b)) (omega (arith, ints))
side_below true true a b h = is_greater (neg_ℤ (pos a)) (neg_ℤ (pos b)) (omega (arith, ints))

pub side_above : (s t : Bool) (a b : ℕ) → b < a → int_cmp (signed s a) (signed t b) ≡ (if s then Less else Greater)
side_above false false a b h = is_greater (pos a) (pos b) (omega (arith, ints))
side_above false true a b h = is_greater (pos a) (neg_ℤ (pos b)) (omega (arith, ints))
side_above true false a b h = is_less (neg_ℤ (pos a)) (pos b) (omega (arith, ints))
side_above true true a b h = is_less (neg_ℤ (pos a)) (neg_ℤ (pos b)) (omega (arith, ints))

with_infinity : (x : Float) (s t : Bool) (a c : ℕ) → HasValue x s a c → nan_last_cmp x (inf t) ≡ (if t then Greater else Less)
unfolding lt is_nan
with_infinity nan s t a c h = absurd h
with_infinity (inf r) s t a c h = absurd h
with_infinity (fin r m e) s true a c h = refl
with_infinity (fin r m e) s false a c h = refl

from_infinity : (y : Float) (s t : Bool) (b c : ℕ) → HasValue y t b c → nan_last_cmp (inf s) y ≡ (if s then Less else Greater)
unfolding lt is_nan
from_infinity nan s t b c h = absurd h
from_infinity (inf r) s t b c h = absurd h
from_infinity (fin r m e) true t b c h = refl
from_infinity (fin r m e) false t b c h = refl

infinities : (s t : Bool) (b : ℕ) → 0 < b → nan_last_cmp (inf s) (inf t) ≡ int_cmp (signed s b) (signed t b)
unfolding lt is_nan
infinities false false b h = sym (is_equal (pos b) (pos b) refl)
infinities true true b h = sym (is_equal (neg_ℤ (pos b)) (neg_ℤ (pos b)) refl)
infinities false true b h = sym (is_greater (pos b) (neg_ℤ (pos b)) (omega (arith, ints)))
infinities true false b h = sym (is_less (neg_ℤ (pos b)) (pos b) (omega (arith, ints)))

pub seen_cmp : (x y : Float) (s t : Bool) (a b big c : ℕ) → 0 < c → 0 < big → IsSeen x s a big c → IsSeen y t b big c → nan_last_cmp x y ≡ int_cmp (signed s a) (signed t b)
seen_cmp x y s t a b big c p q (inl h) (inl k) = finite_cmp x y s t a b c p h.0 k.0
seen_cmp x y s t a b big c p q (inl h) (inr k) =
    let l = h.1 in let e = k.1 in
    ap (nan_last_cmp x) k.0 ∙ with_infinity x s t a c h.0 ∙ sym (side_below s t a b (omega arith))
seen_cmp x y s t a b big c p q (inr h) (inl k) =
    let l = k.1 in let e = h.1 in
    ap (λ (z : Float). nan_last_cmp z y) h.0 ∙ from_infinity y s t b c k.0 ∙ sym (side_above s t a b (omega arith))
seen_cmp x y s t a b big c p q (inr h) (inr k) =
    ap (λ (z : Float). nan_last_cmp z y) h.0 ∙ ap (nan_last_cmp (inf s)) k.0 ∙ infinities s t big q
    ∙ ap (λ (z : ℕ). int_cmp (signed s z) (signed t big)) (sym h.1) ∙ ap (λ (z : ℕ). int_cmp (signed s a) (signed t z)) (sym k.1)
