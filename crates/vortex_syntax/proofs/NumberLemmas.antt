-- What digits write, one after another.
use Rattle.std.proofs.Common.{◌≡◌, ◌<◌, ◌≤◌, ◌+◌, ◌-◌, ◌*◌, ◌^◌, ◌&&◌, ℕ, zero, suc, true, false, List, [], ◌∷◌, ◌++◌, None, Some, length, nat_lt, option_and_then, take, get_or, refl, sym, ◌∙◌, inl, inr, arith}
use Rattle.std.proofs.lemmas.Bool.{and_from, and_parts, cases_Bool, false_from_ne_true}
use Rattle.std.proofs.lemmas.Bool.Decides.{nat_tests}
use Rattle.std.proofs.lemmas.Int.Digits.{digits_value_more}
use Rattle.std.proofs.lemmas.List.{take_all, take_more}
use Rattle.std.proofs.lemmas.Str.{digit_value_digit}
use Rattle.std.proofs.lemmas.Str.Parse.{digits_value-take-le}
use Rattle.std.specs.Char.{digit_value, is_ascii_digit}
use Rattle.std.specs.Str.{all_ascii_digits}
use Rattle.std.specs.Str.Parse.{digits_value}
use Rattle.vortex_syntax.specs.Numbers.{in_64_bits, natural_of, with_digit}

pub all_push : (ds : List ℕ) (d : ℕ) → all_ascii_digits ds ≡ true → is_ascii_digit d ≡ true → all_ascii_digits (ds ++ d ∷ []) ≡ true
all_push [] d all one = and_from _ _ one refl
all_push (x ∷ xs) d all one = let (first, rest) = and_parts _ _ all in and_from _ _ first (all_push xs d rest one)

all_at : (ds : List ℕ) (i : ℕ) → all_ascii_digits ds ≡ true → i < length ds → is_ascii_digit (get_or ds i 0) ≡ true
all_at [] i all within = absurd (omega arith)
all_at (x ∷ xs) zero all within = (and_parts _ _ all).0
all_at (x ∷ xs) (suc i) all within = all_at xs i ((and_parts _ _ all).1) (omega arith)

pub digit_is : (d : ℕ) → is_ascii_digit d ≡ true → digit_value d ≡ d - 48
digit_is d one =
    let low : 48 ≤ d = grind (arith, nat_tests, one) in
    let high : d ≤ 57 = grind (arith, nat_tests, one) in
    let value = digit_value_digit d (low, high) in
    omega arith

held : (n m : ℕ) → in_64_bits n ≡ Some m → n ≡ m
held n m e = elim (cases_Bool (nat_lt n (2 ^ 64))) [ inl is ↦ (let same = rw is at e in cc) | inr isnt ↦ (let same = rw isnt at e in cc) ]

held_small : (n m : ℕ) → in_64_bits n ≡ Some m → m < 2 ^ 64
held_small n m e = elim (cases_Bool (nat_lt n (2 ^ 64))) [
  | inl is ↦ (let low : n < 2 ^ 64 = grind (arith, nat_tests) in rw (held n m e) at low)
  | inr isnt ↦ (let same = rw isnt at e in cc)
]

not_held : (n : ℕ) → in_64_bits n ≡ None → 2 ^ 64 ≤ n
not_held n e = elim (cases_Bool (nat_lt n (2 ^ 64))) [ inl is ↦ (let same = rw is at e in cc) | inr isnt ↦ grind (arith, nat_tests) ]

value_more : (ds : List ℕ) (i n : ℕ) → i < length ds → n ≡ digits_value 10 (take i ds) → is_ascii_digit (get_or ds i 0) ≡ true
    → digits_value 10 (take (i + 1) ds) ≡ n * 10 + (get_or ds i 0 - 48)
value_more ds i n within value one =
    digits_value_more 10 ds i within ∙ rw (← value, digit_is (get_or ds i 0) one) refl

pub natural_more : (ds : List ℕ) (i n next : ℕ) → i < length ds → all_ascii_digits (take i ds) ≡ true → n ≡ digits_value 10 (take i ds)
    → with_digit n (get_or ds i 0) ≡ Some next → (all_ascii_digits (take (i + 1) ds) ≡ true) × (next ≡ digits_value 10 (take (i + 1) ds)) × (next < 2 ^ 64)
natural_more ds i n next within all value e = elim (cases_Bool (is_ascii_digit (get_or ds i 0))) [
  | inl one ↦ (let more = rw one at e in
      (rw (take_more ds i 0 within) (all_push (take i ds) (get_or ds i 0) all one), sym (value_more ds i n within value one ∙ held _ next more), held_small _ next more))
  | inr none ↦ (let bad = rw none at e in cc)
]

pub natural_stops : (ds : List ℕ) (i n : ℕ) → i < length ds → n ≡ digits_value 10 (take i ds) → with_digit n (get_or ds i 0) ≡ None
    → option_and_then in_64_bits (natural_of ds) ≡ None
natural_stops ds i n within value e = elim (cases_Bool (is_ascii_digit (get_or ds i 0))) [
  | inl one ↦ (let high = not_held _ (rw one at e) in
      let most : 2 ^ 64 ≤ digits_value 10 ds = omega (arith, value_more ds i n within value one, digits_value-take-le 10 ds (i + 1) (omega arith)) in
      let past : nat_lt (digits_value 10 ds) (2 ^ 64) ≡ false = grind (arith, nat_tests) in
      elim (cases_Bool (all_ascii_digits ds && nat_lt 0 (length ds))) [ inl is ↦ rw (is, past) refl | inr isnt ↦ rw isnt refl ])
  | inr none ↦ (let other : all_ascii_digits ds ≡ false = false_from_ne_true _ (λ all. let one = all_at ds i all within in cc) in rw other refl)
]

pub natural_whole : (ds : List ℕ) (i n : ℕ) → length ds ≤ i → 0 < length ds → n < 2 ^ 64 → all_ascii_digits (take i ds) ≡ true → n ≡ digits_value 10 (take i ds)
    → Some n ≡ option_and_then in_64_bits (natural_of ds)
natural_whole ds i n past some low all value =
    let same : take i ds ≡ ds = take_all i ds past in
    let digits : all_ascii_digits ds ≡ true = rw same at all in
    let is : n ≡ digits_value 10 ds = rw same at value in
    let long : nat_lt 0 (length ds) ≡ true = grind (arith, nat_tests) in
    let short : nat_lt n (2 ^ 64) ≡ true = grind (arith, nat_tests) in
    rw (digits, long, ← is, short) refl
