-- Numbers of bytes that fit 64 bits, and those that never do again.
use Rattle.std.proofs.Common.{◌≡◌, ℕ, suc, ◌+◌, ◌-◌, ◌<◌, ◌≤◌, ◌^◌, ℤ, pos, negsuc, ◌+ℤ◌, ◌*ℤ◌, ◌<ℤ◌, ◌≤ℤ◌, int_le, true, false, List, [], ◌∷◌, length, Option, Some, None, refl, sym, ap, subst, ◌∙◌, add-one, arith, drop, drop-cons, get_or}
use Rattle.std.proofs.Math.Bool.{and-false}
use Rattle.std.proofs.lemmas.Int.{by_lt_z, ints}
use Rattle.std.proofs.lemmas.List.{drop_all, get_or-drop, length-drop}
use Rattle.vortex_parquet.specs.Decimals.{in_64_bits, with_bytes}

pub it_fits : (z : ℤ) → negsuc (2 ^ 63 - 1) ≤ℤ z → z ≤ℤ pos (2 ^ 63 - 1) → Some z ≡ in_64_bits z
it_fits z low high =
    let a : int_le (negsuc (2 ^ 63 - 1)) z ≡ true = grind (arith, ints) in
    let b : int_le z (pos (2 ^ 63 - 1)) ≡ true = grind (arith, ints) in
    rw (a, b) refl

pub it_is_above : (z : ℤ) → pos (2 ^ 63 - 1) <ℤ z → None ≡ in_64_bits z
it_is_above z h =
    let b : int_le z (pos (2 ^ 63 - 1)) ≡ false = grind (arith, ints) in
    rw (b, and-false (int_le (negsuc (2 ^ 63 - 1)) z)) refl

pub it_is_below : (z : ℤ) → z <ℤ negsuc (2 ^ 63 - 1) → None ≡ in_64_bits z
it_is_below z h =
    let a : int_le (negsuc (2 ^ 63 - 1)) z ≡ false = grind (arith, ints) in
    rw a refl

-- ---- one more byte

abbrev pub more : ℤ → ℕ → ℤ
more z b = (z *ℤ pos 256) +ℤ pos b

more_above : (z : ℤ) (b : ℕ) → pos (2 ^ 63 - 1) <ℤ z → pos (2 ^ 63 - 1) <ℤ more z b
more_above z b h = omega (arith, ints)

more_below : (z : ℤ) (b : ℕ) → b < 256 → z <ℤ negsuc (2 ^ 63 - 1) → more z b <ℤ negsuc (2 ^ 63 - 1)
more_below z b small h = omega (arith, ints)

pub one_more : (z : ℤ) (b : ℕ) → b < 256 → negsuc (2 ^ 55 - 1) ≤ℤ z → z ≤ℤ pos (2 ^ 55 - 1) → Some (more z b) ≡ in_64_bits (more z b)
one_more z b small low high = it_fits (more z b) (omega (arith, ints)) (omega (arith, ints))

-- ---- so many more bytes

abbrev pub AreBytes : List ℕ → Type 0
AreBytes bytes = (k : ℕ) → k < length bytes → get_or bytes k 0 < 256

stays_above : (z : ℤ) (bytes : List ℕ) → pos (2 ^ 63 - 1) <ℤ z → pos (2 ^ 63 - 1) <ℤ with_bytes z bytes
stays_above z [] h = h
stays_above z (b ∷ bytes) h = stays_above (more z b) bytes (more_above z b h)

stays_below : (z : ℤ) (bytes : List ℕ) → AreBytes bytes → z <ℤ negsuc (2 ^ 63 - 1) → with_bytes z bytes <ℤ negsuc (2 ^ 63 - 1)
stays_below z [] are h = h
stays_below z (b ∷ bytes) are h = stays_below (more z b) bytes (λ k lt. are (suc k) (omega arith)) (more_below z b (are 0 (omega arith)) h)

some_differs : (z : ℤ) → None ≡ Some z → ⊥
some_differs z e = cc

never_again : (z : ℤ) (bytes : List ℕ) → AreBytes bytes → None ≡ in_64_bits z → None ≡ in_64_bits (with_bytes z bytes)
never_again z bytes are none =
    by_lt_z (pos (2 ^ 63 - 1)) z
    (λ above. it_is_above (with_bytes z bytes) (stays_above z bytes above))
    (λ high. by_lt_z z (negsuc (2 ^ 63 - 1))
    (λ below. it_is_below (with_bytes z bytes) (stays_below z bytes are below))
    (λ low. absurd (some_differs z (none ∙ sym (it_fits z low high)))))

-- ---- as a loop goes

bytes_left : (bytes : List ℕ) (i : ℕ) → AreBytes bytes → AreBytes (drop i bytes)
bytes_left bytes i are k lt =
    let within : i + k < length bytes = omega (arith, length-drop i bytes) in
    subst (λ (n : ℕ). n < 256) (sym (get_or-drop i bytes k 0)) (are (i + k) within)

bytes_step : (bytes : List ℕ) (i : ℕ) → i < length bytes → drop i bytes ≡ get_or bytes i 0 ∷ drop (i + 1) bytes
bytes_step bytes i lt = drop-cons bytes i 0 lt ∙ ap (λ (n : ℕ). get_or bytes i 0 ∷ drop n bytes) (sym (add-one i))

pub bytes_stop : (bytes : List ℕ) (i : ℕ) (z : ℤ) (total : Option ℤ) → AreBytes bytes → i < length bytes → None ≡ in_64_bits (more z (get_or bytes i 0)) → in_64_bits (with_bytes z (drop i bytes)) ≡ total → None ≡ total
bytes_stop bytes i z total are lt e so_far =
    never_again (more z (get_or bytes i 0)) (drop (i + 1) bytes) (bytes_left bytes (i + 1) are) e
    ∙ ap (λ (bs : List ℕ). in_64_bits (with_bytes z bs)) (sym (bytes_step bytes i lt)) ∙ so_far

pub bytes_done : (bytes : List ℕ) (i : ℕ) (z : ℤ) (total : Option ℤ) → length bytes ≤ i → in_64_bits (with_bytes z (drop i bytes)) ≡ total → in_64_bits z ≡ total
bytes_done bytes i z total le so_far = ap (λ (bs : List ℕ). in_64_bits (with_bytes z bs)) (sym (drop_all i bytes le)) ∙ so_far
