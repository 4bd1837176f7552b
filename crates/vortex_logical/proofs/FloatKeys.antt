-- The bits of floats as whole numbers in their order.
use Rattle.std.proofs.Common.{◌≡◌, ℕ, zero, suc, ◌+◌, ◌-◌, ◌*◌, ◌/◌, ◌%◌, ◌^◌, ◌<◌, ◌≤◌, Bool, true, false, refl, sym, ◌∙◌, ap, subst, arith, inl, inr}
use Rattle.std.specs.Prelude.{ℤ, pos, negsuc, neg_ℤ, nat_lt, nat_le, ◌==◌, if◌then◌else◌, ◌<ℤ◌, ◌≤ℤ◌}
use Rattle.std.specs.Float.Ieee.{Float, Format, binary32, binary64, nan, inf, fin, of_bits, of_fields, is_nan, hid, ones, top, prec, low, odd}
use lib.Ieee.Exact.{HasValue, odd_sign}
use Rattle.std.specs.Ordering.{nan_last_cmp, int_cmp}
use Rattle.std.specs.declared.cmp.Ordering.TheVariants.{Less, Equal, Greater}
use Rattle.std.proofs.lemmas.Int.{ints}
use Rattle.std.proofs.lemmas.Bool.Decides.{nat_tests}
use Rattle.std.proofs.lemmas.Nat.{pow_pos}
use Rattle.std.proofs.Math.Nat.{mod-lt, div-add-mod', mul-le-mul_right, mod-mod_of_dvd, dvd-mul_right, mul-pos}
use Rattle.vortex_logical.specs.Floats.{signed_key}
use Rattle.vortex_logical.proofs.ByteOrder.{cases_nat}
use Rattle.vortex_logical.proofs.Orders.{is_less, is_greater, is_equal}
use Rattle.vortex_logical.specs.Halves.{signed}
use Rattle.vortex_logical.proofs.FloatOrder.{size_of, size_mono, IsSeen, seen_cmp}

-- ---- the whole number of a float of std

abbrev pub infinity_bits : Format → ℕ
infinity_bits f = ones f * hid f

abbrev pub nan_key : Format → ℕ
nan_key f = infinity_bits f + hid f / 2

abbrev pub key : Format → ℕ → ℤ
key f b = if nat_lt (infinity_bits f) (b % top f) then pos (nan_key f) else signed_key (nat_le (top f) b) (b % top f)

-- ---- what the fields are read as

fields_of : (f : Format) (b : ℕ) → of_bits f b ≡ of_fields f (nat_le (top f) b) (b % top f / hid f) (b % top f % hid f)
unfolding of_bits
fields_of f b = ap (of_fields f (nat_le (top f) b) (b % top f / hid f)) (sym (mod-mod_of_dvd (hid f) b (dvd-mul_right (hid f) (suc (ones f)))))

differs : (x y : ℕ) → x < y → (x == y) ≡ false
differs x y h = grind (arith, nat_tests)

exceeds : (t : ℕ) → 0 < t → (t == 0) ≡ false
exceeds t h = grind (arith, nat_tests)

finite_fields : (f : Format) (s : Bool) (x t : ℕ) → x < ones f → HasValue (of_fields f s x t) s (size_of (hid f) x t) (2 ^ low f)
unfolding of_fields
finite_fields f s zero t h = odd_sign (prec f) s t 0 (low f)
finite_fields f s (suc x) t h =
    let P : Bool → Type 0 = λ z. HasValue (if z then (if t == 0 then inf s else nan) else odd (prec f) s (hid f + t) x (low f)) s ((hid f + t) * 2 ^ x) (2 ^ low f) in
    subst P (sym (differs (suc x) (ones f) h)) (odd_sign (prec f) s (hid f + t) x (low f))

infinite_fields : (f : Format) (s : Bool) → of_fields f s (ones f) 0 ≡ inf s
unfolding of_fields
infinite_fields binary32 s = refl
infinite_fields binary64 s = refl

nan_fields : (f : Format) (s : Bool) (t : ℕ) → 0 < t → of_fields f s (ones f) t ≡ nan
unfolding of_fields
nan_fields binary32 s t h = ap (λ (z : Bool). if z then inf s else nan) (exceeds t h)
nan_fields binary64 s t h = ap (λ (z : Bool). if z then inf s else nan) (exceeds t h)

-- ---- the fields of bits

hid_pos : (f : Format) → 0 < hid f
hid_pos f = pow_pos (prec f - 1)

top_pos : (f : Format) → 0 < top f
top_pos binary32 = omega arith
top_pos binary64 = omega arith

field_short : (h k x t m : ℕ) → x * h + t ≡ m → m < h * suc k → x ≤ k
field_short h k x t m e l =
    cases_nat k x
    (λ less. let p : suc k * h ≤ x * h = mul-le-mul_right {m = suc k} {n = x} h less in absurd (omega arith))
    (λ same. omega arith)
    (λ more. omega arith)

under_ones : (h k x t m : ℕ) → x * h + t ≡ m → t < h → x < k → m < k * h
under_ones h k x t m e l less = let p : suc x * h ≤ k * h = mul-le-mul_right {m = suc x} {n = k} h less in omega arith

abbrev pub size_at : Format → ℕ → ℕ
size_at f m = size_of (hid f) (m / hid f) (m % hid f)

size_at_mono : (f : Format) (m n : ℕ) → m < n → size_at f m < size_at f n
size_at_mono f m n l =
    let p = div-add-mod' m (hid f) in
    let q = div-add-mod' n (hid f) in
    size_mono (hid f) (m / hid f) (m % hid f) (n / hid f) (n % hid f) (mod-lt m (hid_pos f)) (mod-lt n (hid_pos f)) (omega arith)

size_at_zero : (f : Format) → size_at f 0 ≡ 0
size_at_zero binary32 = refl
size_at_zero binary64 = refl

abbrev big : Format → ℕ
big f = size_of (hid f) (ones f) 0

big_pos : (f : Format) → 0 < big f
big_pos f =
    let o : 0 < ones f * hid f = mul-pos (omega arith) (hid_pos f) in
    let k = size_mono (hid f) 0 0 (ones f) 0 (hid_pos f) (hid_pos f) (omega arith) in
    omega arith

seen_by : (f : Format) (s : Bool) (x t m : ℕ) → x * hid f + t ≡ m → t < hid f → m ≤ infinity_bits f → x ≤ ones f → IsSeen (of_fields f s x t) s (size_of (hid f) x t) (big f) (2 ^ low f)
seen_by f s x t m e l r o =
    cases_nat x (ones f)
    (λ less. let u = under_ones (hid f) (ones f) x t m e l less in inl (finite_fields f s x t less, size_mono (hid f) x t (ones f) 0 l (hid_pos f) (omega arith)))
    (λ same.
    let p : x * hid f ≡ ones f * hid f = ap (λ (z : ℕ). z * hid f) same in
    let z : t ≡ 0 = omega arith in
    inr (ap (λ (y : ℕ). of_fields f s y t) same ∙ ap (of_fields f s (ones f)) z ∙ infinite_fields f s, ap (λ (y : ℕ). size_of (hid f) y t) same ∙ ap (size_of (hid f) (ones f)) z))
    (λ more. absurd (omega arith))

seen : (f : Format) (b : ℕ) → b % top f ≤ infinity_bits f → IsSeen (of_bits f b) (nat_le (top f) b) (size_at f (b % top f)) (big f) (2 ^ low f)
seen f b r =
    let m = b % top f in
    let e : m / hid f * hid f + m % hid f ≡ m = div-add-mod' m (hid f) in
    let o : m / hid f ≤ ones f = field_short (hid f) (ones f) (m / hid f) (m % hid f) m e (mod-lt b (top_pos f)) in
    let P : Float → Type 0 = λ x. IsSeen x (nat_le (top f) b) (size_at f m) (big f) (2 ^ low f) in
    subst P (sym (fields_of f b)) (seen_by f (nat_le (top f) b) (m / hid f) (m % hid f) m e (mod-lt m (hid_pos f)) r o)

nan_by : (f : Format) (s : Bool) (x t m : ℕ) → x * hid f + t ≡ m → t < hid f → infinity_bits f < m → x ≤ ones f → of_fields f s x t ≡ nan
nan_by f s x t m e l r o =
    cases_nat x (ones f)
    (λ less. let u = under_ones (hid f) (ones f) x t m e l less in absurd (omega arith))
    (λ same.
    let p : x * hid f ≡ ones f * hid f = ap (λ (z : ℕ). z * hid f) same in
    ap (λ (y : ℕ). of_fields f s y t) same ∙ nan_fields f s t (omega arith))
    (λ more. absurd (omega arith))

pub nan_is : (f : Format) (b : ℕ) → infinity_bits f < b % top f → of_bits f b ≡ nan
nan_is f b r =
    let m = b % top f in
    let e : m / hid f * hid f + m % hid f ≡ m = div-add-mod' m (hid f) in
    let o : m / hid f ≤ ones f = field_short (hid f) (ones f) (m / hid f) (m % hid f) m e (mod-lt b (top_pos f)) in
    fields_of f b ∙ nan_by f (nat_le (top f) b) (m / hid f) (m % hid f) m e (mod-lt m (hid_pos f)) r o

-- ---- sizes and keys are in one order

negative_key : (m n : ℕ) → m < n → signed_key true n <ℤ signed_key true m
negative_key m zero h = absurd (omega arith)
negative_key zero (suc n) h = omega (arith, ints)
negative_key (suc m) (suc n) h = omega (arith, ints)

module _ (g : ℕ → ℕ) (mono : (m n : ℕ) → m < n → g m < g n) (none : g 0 ≡ 0) where
  some : (m : ℕ) → 0 < g (suc m)
  some m = let h = mono 0 (suc m) (omega arith) in omega arith

  pub keys_cmp : (s t : Bool) (m n : ℕ) → int_cmp (signed s (g m)) (signed t (g n)) ≡ int_cmp (signed_key s m) (signed_key t n)
  keys_cmp false false m n =
      cases_nat m n
      (λ l. let k = mono m n l in is_less (pos (g m)) (pos (g n)) (omega (arith, ints)) ∙ sym (is_less (pos m) (pos n) (omega (arith, ints))))
      (λ e. is_equal (pos (g m)) (pos (g n)) (ap (λ (z : ℕ). pos (g z)) e) ∙ sym (is_equal (pos m) (pos n) (ap pos e)))
      (λ l. let k = mono n m l in is_greater (pos (g m)) (pos (g n)) (omega (arith, ints)) ∙ sym (is_greater (pos m) (pos n) (omega (arith, ints))))
  keys_cmp true true m n =
      cases_nat m n
      (λ l. let k = mono m n l in is_greater (neg_ℤ (pos (g m))) (neg_ℤ (pos (g n))) (omega (arith, ints)) ∙ sym (is_greater (signed_key true m) (signed_key true n) (negative_key m n l)))
      (λ e. is_equal (neg_ℤ (pos (g m))) (neg_ℤ (pos (g n))) (ap (λ (z : ℕ). neg_ℤ (pos (g z))) e) ∙ sym (is_equal (signed_key true m) (signed_key true n) (ap (signed_key true) e)))
      (λ l. let k = mono n m l in is_less (neg_ℤ (pos (g m))) (neg_ℤ (pos (g n))) (omega (arith, ints)) ∙ sym (is_less (signed_key true m) (signed_key true n) (negative_key n m l)))
  keys_cmp false true zero zero = is_equal (pos (g 0)) (neg_ℤ (pos (g 0))) (omega (arith, ints))
  keys_cmp false true (suc m) zero = let k = some m in is_greater (pos (g (suc m))) (neg_ℤ (pos (g 0))) (omega (arith, ints)) ∙ sym (is_greater (pos (suc m)) (pos 0) (omega (arith, ints)))
  keys_cmp false true m (suc n) = let k = some n in is_greater (pos (g m)) (neg_ℤ (pos (g (suc n)))) (omega (arith, ints)) ∙ sym (is_greater (pos m) (negsuc (suc n)) (omega (arith, ints)))
  keys_cmp true false zero zero = is_equal (neg_ℤ (pos (g 0))) (pos (g 0)) (omega (arith, ints))
  keys_cmp true false zero (suc n) = let k = some n in is_less (neg_ℤ (pos (g 0))) (pos (g (suc n))) (omega (arith, ints)) ∙ sym (is_less (pos 0) (pos (suc n)) (omega (arith, ints)))
  keys_cmp true false (suc m) n = let k = some m in is_less (neg_ℤ (pos (g (suc m)))) (pos (g n)) (omega (arith, ints)) ∙ sym (is_less (negsuc (suc m)) (pos n) (omega (arith, ints)))

-- ---- NaN

not_nan : (x : Float) (s : Bool) (a c b : ℕ) → IsSeen x s a b c → is_nan x ≡ false
unfolding is_nan
not_nan nan s a c b (inl h) = absurd h.0
not_nan nan s a c b (inr h) = cc
not_nan (inf r) s a c b h = refl
not_nan (fin r m e) s a c b h = refl

nan_above : (y : Float) → is_nan y ≡ false → nan_last_cmp nan y ≡ Greater
unfolding is_nan
nan_above nan h = cc
nan_above (inf r) h = refl
nan_above (fin r m e) h = refl

nan_below : (x : Float) → is_nan x ≡ false → nan_last_cmp x nan ≡ Less
unfolding is_nan
nan_below nan h = cc
nan_below (inf r) h = refl
nan_below (fin r m e) h = refl

nans : nan_last_cmp nan nan ≡ Equal
unfolding is_nan
nans = refl

pub signed_key-le : (s : Bool) (m : ℕ) → signed_key s m ≤ℤ pos m
signed_key-le false m = omega (arith, ints)
signed_key-le true zero = omega (arith, ints)
signed_key-le true (suc m) = omega (arith, ints)

nan_key_above : (f : Format) → infinity_bits f < nan_key f
nan_key_above binary32 = omega arith
nan_key_above binary64 = omega arith

number_below : (f : Format) (s : Bool) (m : ℕ) → m ≤ infinity_bits f → signed_key s m <ℤ pos (nan_key f)
number_below f s m h = let k = signed_key-le s m in let n = nan_key_above f in omega (arith, ints)

abbrev key_by : Format → ℕ → Bool → ℤ
key_by f b z = if z then pos (nan_key f) else signed_key (nat_le (top f) b) (b % top f)

pub over : (m n : ℕ) → nat_lt m n ≡ true → m < n
over m n h = grind (arith, nat_tests)

pub under : (m n : ℕ) → nat_lt m n ≡ false → n ≤ m
under m n h = grind (arith, nat_tests)

floats_by : (f : Format) (a b : ℕ) (y z : Bool) → nat_lt (infinity_bits f) (a % top f) ≡ y → nat_lt (infinity_bits f) (b % top f) ≡ z
    → nan_last_cmp (of_bits f a) (of_bits f b) ≡ int_cmp (key_by f a y) (key_by f b z)
floats_by f a b true true p q =
    ap (λ (x : Float). nan_last_cmp x (of_bits f b)) (nan_is f a (over _ _ p)) ∙ ap (nan_last_cmp nan) (nan_is f b (over _ _ q)) ∙ nans ∙ sym (is_equal (pos (nan_key f)) (pos (nan_key f)) refl)
floats_by f a b true false p q =
    ap (λ (x : Float). nan_last_cmp x (of_bits f b)) (nan_is f a (over _ _ p)) ∙ nan_above (of_bits f b) (not_nan _ _ _ _ _ (seen f b (under _ _ q)))
    ∙ sym (is_greater (pos (nan_key f)) (key_by f b false) (number_below f (nat_le (top f) b) (b % top f) (under _ _ q)))
floats_by f a b false true p q =
    ap (nan_last_cmp (of_bits f a)) (nan_is f b (over _ _ q)) ∙ nan_below (of_bits f a) (not_nan _ _ _ _ _ (seen f a (under _ _ p)))
    ∙ sym (is_less (key_by f a false) (pos (nan_key f)) (number_below f (nat_le (top f) a) (a % top f) (under _ _ p)))
floats_by f a b false false p q =
    seen_cmp (of_bits f a) (of_bits f b) (nat_le (top f) a) (nat_le (top f) b) (size_at f (a % top f)) (size_at f (b % top f)) (big f) (2 ^ low f) (pow_pos (low f)) (big_pos f) (seen f a (under _ _ p)) (seen f b (under _ _ q))
    ∙ keys_cmp (size_at f) (size_at_mono f) (size_at_zero f) (nat_le (top f) a) (nat_le (top f) b) (a % top f) (b % top f)

pub floats_cmp : (f : Format) (a b : ℕ) → nan_last_cmp (of_bits f a) (of_bits f b) ≡ int_cmp (key f a) (key f b)
floats_cmp f a b = floats_by f a b (nat_lt (infinity_bits f) (a % top f)) (nat_lt (infinity_bits f) (b % top f)) refl refl

pub number_is : (f : Format) (b : ℕ) → b % top f ≤ infinity_bits f → is_nan (of_bits f b) ≡ false
number_is f b h = not_nan (of_bits f b) (nat_le (top f) b) (size_at f (b % top f)) (2 ^ low f) (big f) (seen f b h)

pub key_of_nan : (f : Format) (b : ℕ) → nat_lt (infinity_bits f) (b % top f) ≡ true → key f b ≡ pos (nan_key f)
key_of_nan f b h = ap (key_by f b) h

pub key_below : (f : Format) (b : ℕ) → nat_lt (infinity_bits f) (b % top f) ≡ false → key f b <ℤ pos (nan_key f)
key_below f b h =
    let P : ℤ → Type 0 = λ z. z <ℤ pos (nan_key f) in
    subst P (sym (ap (key_by f b) h)) (number_below f (nat_le (top f) b) (b % top f) (under _ _ h))
