-- The digits at the front of eight bytes, looked at together as one word.
use Rattle.std.proofs.Common.{◌≡◌, ◌≢◌, ◌<◌, ◌≤◌, ◌+◌, ◌-◌, ◌*◌, ◌/◌, ◌%◌, ◌^◌, ℕ, zero, suc, true, List, [], ◌∷◌, ◌++◌, bit_and, bit_or, drop, get_or, length, map, take, w64, refl, ap, sym, ◌∙◌, arith, length-append, subst}
use Rattle.std.proofs.lemmas.Bool.{and_from, and_parts}
use Rattle.std.proofs.lemmas.Bool.Decides.{nat_tests}
use Rattle.std.proofs.lemmas.List.{length-map, length-replicate, length-take-le, take-take}
use Rattle.std.specs.Char.{is_ascii_digit}
use Rattle.std.specs.Int.{from_le_bytes}
use Rattle.std.specs.List.{AllByRecursion}
use Rattle.std.specs.Str.{all_ascii_digits}
use Rattle.std.specs.Str.Parse.{digits_value}
use lib.Bits.{bit_xor, and_block, and_high, and_le_l, and_le_r, and_mask, and_mod, and_shr, or_add_and, or_lt, or_mod, or_shr, xor_assoc, xor_block, xor_lt, xor_zero_r}
use lib.Count.{count_trailing_zeros, trailing_le, under}
use lib.Lanes.{number_l}
use lib.ListN.{replicate}
use lib.Pow.{pow-add, pow_pos}
use native.Mathlib.Nat.{mul-lt-mul_of_pos_right, mul_assoc, pow-suc}
use Rattle.vortex_syntax.proofs.Fronts.{front_is}
use Rattle.vortex_syntax.proofs.PlainLemmas.{eight_of, value_on, value_on_digits}

-- bytes as one word, the first of them lowest
abbrev word : List ℕ → ℕ
word [] = 0
word (b ∷ bs) = word bs * 256 + b

-- a word with one byte in each place
abbrev filled : ℕ → List ℕ → ℕ
filled m [] = 0
filled m (b ∷ bs) = filled m bs * 256 + m

-- bytes less the digit zero, as the function takes it off
abbrev worths : List ℕ → List ℕ
worths bs = map (λ b. bit_xor b 48) bs

-- ---- what a word is worth, byte by byte

-- it's taken off each byte alone
worth_is : (bs : List ℕ) → AllByRecursion (λ b. b < 256) bs → bit_xor (word bs) (filled 48 bs) ≡ word (worths bs)
worth_is [] small = refl
worth_is (b ∷ bs) (small, more) =
    let parts : bit_xor (word bs * 256 + b) (filled 48 bs * 256 + 48) ≡ bit_xor (word bs) (filled 48 bs) * 256 + bit_xor b 48 = xor_block 8 (word bs) (filled 48 bs) b 48 small (omega arith) in
    parts ∙ ap (λ w. w * 256 + bit_xor b 48) (worth_is bs more)

worths_small : (bs : List ℕ) → AllByRecursion (λ b. b < 256) bs → AllByRecursion (λ b. b < 256) (worths bs)
worths_small [] small = tt
worths_small (b ∷ bs) (small, more) = (xor_lt 8 b 48 small (omega arith), worths_small bs more)

-- only a digit is worth less than ten
worth_digit : (b : ℕ) → bit_xor b 48 < 10 → (is_ascii_digit b ≡ true) × (bit_xor b 48 ≡ b - 48)
worth_digit b less =
    let halves : b ≡ b / 16 * 16 + b % 16 = omega arith in
    let parts : bit_xor (b / 16 * 16 + b % 16) 48 ≡ bit_xor (b / 16) 3 * 16 + bit_xor (b % 16) 0 = xor_block 4 (b / 16) 3 (b % 16) 0 (omega arith) (omega arith) in
    let same : bit_xor b 48 ≡ bit_xor (b / 16) 3 * 16 + b % 16 = ap (λ n. bit_xor n 48) halves ∙ parts ∙ ap (λ n. bit_xor (b / 16) 3 * 16 + n) (xor_zero_r (b % 16)) in
    let none : bit_xor (b / 16) 3 ≡ 0 = omega arith in
    let three : b / 16 ≡ 3 = sym (xor_zero_r (b / 16)) ∙ sym (xor_assoc (b / 16) 3 3) ∙ ap (λ n. bit_xor n 3) none in
    let low : 48 ≤ b = omega arith in
    let high : b ≤ 57 = omega arith in
    (grind (arith, nat_tests), omega arith)

-- ---- the bytes that are worth ten or more

-- the highest bits of such bytes, up to the first of them
abbrev others : List ℕ → ℕ
others xs = bit_and (bit_or (word xs + filled 118 xs) (word xs)) (filled 128 xs)

-- the highest bit of a byte that is worth ten or more is among them
byte_passes : (x : ℕ) → x < 256 → bit_and (bit_or ((x + 118) % 256) x) 128 ≡ 0 → x < 10
byte_passes x small none =
    let n = bit_or ((x + 118) % 256) x in
    let fits : n < 256 = or_lt 8 ((x + 118) % 256) x (omega arith) small in
    let high : bit_and n 128 ≡ n / 128 % 2 * 128 = and_high n 1 7 in
    let sum : n + bit_and ((x + 118) % 256) x ≡ (x + 118) % 256 + x = or_add_and ((x + 118) % 256) x in
    let left : bit_and ((x + 118) % 256) x ≤ (x + 118) % 256 = and_le_l ((x + 118) % 256) x in
    let right : bit_and ((x + 118) % 256) x ≤ x = and_le_r ((x + 118) % 256) x in
    let first : x ≤ n = omega arith in
    let second : (x + 118) % 256 ≤ n = omega arith in
    let below : n < 128 = omega arith in
    omega arith

-- what they are at the first byte, which nothing is carried to
others_first : (x : ℕ) (xs : List ℕ) → x < 256 → others (x ∷ xs) % 256 ≡ bit_and (bit_or ((x + 118) % 256) x) 128
others_first x xs small =
    let sum : (word xs * 256 + x + (filled 118 xs * 256 + 118)) % 256 ≡ (x + 118) % 256 = omega arith in
    let own : (word xs * 256 + x) % 256 ≡ x = omega arith in
    let mask : (filled 128 xs * 256 + 128) % 256 ≡ 128 = omega arith in
    let either = or_mod (word xs * 256 + x + (filled 118 xs * 256 + 118)) (word xs * 256 + x) 8 ∙ (λ i. bit_or (sum i) (own i)) in
    and_mod (bit_or (word xs * 256 + x + (filled 118 xs * 256 + 118)) (word xs * 256 + x)) (filled 128 xs * 256 + 128) 8 ∙ (λ i. bit_and (either i) (mask i))

-- nothing is carried from a byte below ten
others_behind : (x : ℕ) (xs : List ℕ) → x < 10 → others (x ∷ xs) / 256 ≡ others xs
others_behind x xs less =
    let sum : (word xs * 256 + x + (filled 118 xs * 256 + 118)) / 256 ≡ word xs + filled 118 xs = omega arith in
    let own : (word xs * 256 + x) / 256 ≡ word xs = omega arith in
    let mask : (filled 128 xs * 256 + 128) / 256 ≡ filled 128 xs = omega arith in
    let either = or_shr (word xs * 256 + x + (filled 118 xs * 256 + 118)) (word xs * 256 + x) 8 ∙ (λ i. bit_or (sum i) (own i)) in
    and_shr (bit_or (word xs * 256 + x + (filled 118 xs * 256 + 118)) (word xs * 256 + x)) (filled 128 xs * 256 + 128) 8 ∙ (λ i. bit_and (either i) (mask i))

-- one byte more is eight bits more
one_byte : (k : ℕ) → 2 ^ (8 * suc k) ≡ 2 ^ (8 * k) * 256
one_byte k = let more : 8 * suc k ≡ 8 * k + 8 = omega arith in ap (λ n. 2 ^ n) more ∙ pow-add 2 (8 * k) 8

-- as many bytes at the front are below ten as are zero in `others`
front_less : (k : ℕ) (xs : List ℕ) (q : ℕ) → AllByRecursion (λ b. b < 256) xs → others xs ≡ q * 2 ^ (8 * k) → AllByRecursion (λ x. x < 10) (take k xs)
front_less zero xs q small none = tt
front_less (suc k) [] q small none = tt
front_less (suc k) (x ∷ xs) q (small, more) none =
    let clear : others (x ∷ xs) ≡ q * 2 ^ (8 * k) * 256 = none ∙ ap (λ n. q * n) (one_byte k) ∙ omega arith in
    let first : others (x ∷ xs) % 256 ≡ 0 = omega arith in
    let less : x < 10 = byte_passes x small (sym (others_first x xs small) ∙ first) in
    let rest : others (x ∷ xs) / 256 ≡ q * 2 ^ (8 * k) = omega arith in
    (less, front_less k xs q more (sym (others_behind x xs less) ∙ rest))

-- what is carried out of the word changes nothing
uncarried : (a w m : ℕ) → m < 2 ^ 64 → bit_and (bit_or (a % 2 ^ 64) w) m ≡ bit_and (bit_or a w) m % 2 ^ 64
uncarried a w m fits =
    let within : bit_and (bit_or (a % 2 ^ 64) w) m ≤ m = and_le_r (bit_or (a % 2 ^ 64) w) m in
    let whole : bit_and (bit_or (a % 2 ^ 64) w) m ≡ bit_and (bit_or (a % 2 ^ 64) w) m % 2 ^ 64 = omega arith in
    let twice : a % 2 ^ 64 % 2 ^ 64 ≡ a % 2 ^ 64 = omega arith in
    let either = or_mod (a % 2 ^ 64) w 64 ∙ ap (λ n. bit_or n (w % 2 ^ 64)) twice ∙ sym (or_mod a w 64) in
    whole ∙ and_mod (bit_or (a % 2 ^ 64) w) m 64 ∙ ap (λ n. bit_and n (m % 2 ^ 64)) either ∙ sym (and_mod (bit_or a w) m 64)

-- ---- zeros at a number's end

zeros_step : (n t d : ℕ) → n % 2 ≡ d → (q : ℕ) × (n / 2 ≡ q * 2 ^ t) → (q : ℕ) × (n ≡ q * 2 ^ under d t)
zeros_step n t zero even (q, is) = (q, omega (arith, pow-suc 2 t, ap (λ n. q * n) (pow-suc 2 t)))
zeros_step n t (suc d) odd (q, is) = (n, omega arith)

-- a number is so many times the power of two
zeros_of : (w n : ℕ) → (q : ℕ) × (n ≡ q * 2 ^ count_trailing_zeros w n)
unfolding count_trailing_zeros
zeros_of zero n = (n, omega arith)
zeros_of (suc w) n = zeros_step n (count_trailing_zeros w (n / 2)) (n % 2) refl (zeros_of w (n / 2))

-- in whole bytes
bytes_of_zeros : (n q t : ℕ) → n ≡ q * 2 ^ t → n ≡ q * 2 ^ (t % 8) * 2 ^ (8 * (t / 8))
bytes_of_zeros n q t is =
    let parts : t ≡ t % 8 + 8 * (t / 8) = omega arith in
    is ∙ ap (λ e. q * 2 ^ e) parts ∙ ap (λ p. q * p) (pow-add 2 (t % 8) (8 * (t / 8))) ∙ sym (mul_assoc q (2 ^ (t % 8)) (2 ^ (8 * (t / 8))))

-- ---- the digits at the word's end, behind zeros

-- the first bytes of a word, and those behind them
word_split : (k : ℕ) (xs : List ℕ) → word xs ≡ word (drop k xs) * 2 ^ (8 * k) + word (take k xs)
word_split zero xs = omega arith
word_split (suc k) [] = omega arith
word_split (suc k) (x ∷ xs) =
    let more = word_split k xs in
    let bytes : word (drop k xs) * 2 ^ (8 * suc k) ≡ word (drop k xs) * (2 ^ (8 * k) * 256) = ap (λ n. word (drop k xs) * n) (one_byte k) in
    omega arith

word_less : (xs : List ℕ) → AllByRecursion (λ x. x < 10) xs → word xs < 2 ^ (8 * length xs)
word_less [] small = omega arith
word_less (x ∷ xs) (small, more) =
    let rest = word_less xs more in
    let bytes = one_byte (length xs) in
    omega arith

-- zeros in front of a word shift it
zeros_front : (m : ℕ) (xs : List ℕ) → word (replicate m 0 ++ xs) ≡ word xs * 2 ^ (8 * m)
zeros_front zero xs = omega arith
zeros_front (suc m) xs =
    let more = zeros_front m xs in
    let bytes : word xs * 2 ^ (8 * suc m) ≡ word xs * (2 ^ (8 * m) * 256) = ap (λ n. word xs * n) (one_byte m) in
    omega arith

-- the bytes behind the first few are shifted out
shifted : (k m : ℕ) (xs : List ℕ) → k + m ≡ 8 → k ≤ length xs → AllByRecursion (λ x. x < 10) (take k xs) → word xs * 2 ^ (8 * m) % 2 ^ 64 ≡ word (replicate m 0 ++ take k xs)
shifted k m xs eight long small =
    let all : 8 * k + 8 * m ≡ 64 = omega arith in
    let powers : 2 ^ (8 * k) * 2 ^ (8 * m) ≡ 2 ^ 64 = sym (pow-add 2 (8 * k) (8 * m)) ∙ ap (λ n. 2 ^ n) all in
    let short : word (take k xs) < 2 ^ (8 * k) = subst_length k (take k xs) (length-take-le k xs long) (word_less (take k xs) small) in
    let fits : word (take k xs) * 2 ^ (8 * m) < 2 ^ (8 * k) * 2 ^ (8 * m) = mul-lt-mul_of_pos_right short (pow_pos (8 * m)) in
    let parts : word xs * 2 ^ (8 * m) ≡ word (drop k xs) * (2 ^ (8 * k) * 2 ^ (8 * m)) + word (take k xs) * 2 ^ (8 * m) = ap (λ w. w * 2 ^ (8 * m)) (word_split k xs) ∙ omega arith in
    let whole : word (drop k xs) * (2 ^ (8 * k) * 2 ^ (8 * m)) ≡ word (drop k xs) * 2 ^ 64 = ap (λ n. word (drop k xs) * n) powers in
    omega (arith, zeros_front m (take k xs))
  where
    subst_length : (k : ℕ) (ys : List ℕ) → length ys ≡ k → word ys < 2 ^ (8 * length ys) → word ys < 2 ^ (8 * k)
    subst_length k ys is less = rw is at less

-- digits as a word, without what stands for zero in each
lowered : (ds : List ℕ) → all_ascii_digits ds ≡ true → (word ds ≡ word (map (λ b. b - 48) ds) + filled 48 ds) × AllByRecursion (λ d. d < 10) (map (λ b. b - 48) ds)
lowered [] all = (omega arith, tt)
lowered (b ∷ bs) all =
    let (one, more) = and_parts _ _ all in
    let digit : is_ascii_digit b ≡ true = one in
    let low : 48 ≤ b = grind (arith, nat_tests, digit) in
    let high : b ≤ 57 = grind (arith, nat_tests, digit) in
    let (same, small) = lowered bs more in
    (omega arith, (omega arith, small))

-- bytes that are worth less than ten are digits
front_digit : (k : ℕ) (bs : List ℕ) → AllByRecursion (λ x. x < 10) (take k (worths bs)) → (all_ascii_digits (take k bs) ≡ true) × (take k (worths bs) ≡ map (λ b. b - 48) (take k bs))
front_digit zero bs less = (refl, refl)
front_digit (suc k) [] less = (refl, refl)
front_digit (suc k) (b ∷ bs) (less, more) =
    let (digit, value) = worth_digit b less in
    let (all, values) = front_digit k bs more in
    (and_from _ _ digit all, (λ i. value i ∷ values i))

-- zeros in front of digits are digits, and change no number
padded_all : (m : ℕ) (ds : List ℕ) → all_ascii_digits ds ≡ true → all_ascii_digits (replicate m 48 ++ ds) ≡ true
padded_all zero ds all = all
padded_all (suc m) ds all = and_from _ _ refl (padded_all m ds all)

padded_value : (m : ℕ) (ds : List ℕ) → digits_value 10 (replicate m 48 ++ ds) ≡ digits_value 10 ds
padded_value zero ds = refl
padded_value (suc m) ds = padded_value m ds

padded_lowered : (m : ℕ) (ds : List ℕ) → map (λ b. b - 48) (replicate m 48 ++ ds) ≡ replicate m 0 ++ map (λ b. b - 48) ds
padded_lowered zero ds = refl
padded_lowered (suc m) ds = ap (λ l. 0 ∷ l) (padded_lowered m ds)

-- ---- lists of eight

-- a list of eight bytes, one by one
eight_are : (bs : List ℕ) → length bs ≡ 8 → bs ≡ eight_of bs
eight_are bs long = front_is (eight_of bs) bs (omega arith) (refl, (refl, (refl, (refl, (refl, (refl, (refl, (refl, tt)))))))) ∙ ap (λ n. eight_of bs ++ take (n - 8) (drop 8 bs)) long

-- the words of eight bytes
word_eight : (bs : List ℕ) → length bs ≡ 8 → word bs ≡ from_le_bytes w64 bs
word_eight bs long = let each : word (eight_of bs) ≡ from_le_bytes w64 bs = omega arith in ap word (eight_are bs long) ∙ each

filled_eight : (m : ℕ) (bs : List ℕ) → length bs ≡ 8 → filled m bs ≡ filled m (eight_of bs)
filled_eight m bs long = ap (filled m) (eight_are bs long)

small_eight : (bs : List ℕ) → length bs ≡ 8 → ((i : ℕ) → get_or bs i 0 < 256) → AllByRecursion (λ b. b < 256) bs
small_eight bs long small =
    subst (λ l. AllByRecursion (λ b. b < 256) l) (sym (eight_are bs long)) (small 0, (small 1, (small 2, (small 3, (small 4, (small 5, (small 6, (small 7, tt))))))))

-- what the function makes of them is the word of what they are worth
worth_eight : (bs : List ℕ) (w : ℕ) → length bs ≡ 8 → ((i : ℕ) → get_or bs i 0 < 256) → w ≡ from_le_bytes w64 bs → bit_xor w 0x3030_3030_3030_3030 ≡ word (worths bs)
worth_eight bs w long small is =
    let own : w ≡ word bs = is ∙ sym (word_eight bs long) in
    (λ i. bit_xor (own i) (sym (filled_eight 48 bs long) i)) ∙ worth_is bs (small_eight bs long small)

-- `others` as the function has it
abbrev pub marked : ℕ → ℕ
marked w = bit_and (bit_or ((bit_xor w 0x3030_3030_3030_3030 + 0x7676_7676_7676_7676) % 2 ^ 64) (bit_xor w 0x3030_3030_3030_3030)) 0x8080_8080_8080_8080

-- the same of a worth, with what is carried out of the word
abbrev read : ℕ → ℕ
read n = bit_and (bit_or (n + 0x7676_7676_7676_7676) n) 0x8080_8080_8080_8080

-- the bytes that were looked at, and found to be worth less than ten
front_found : (bs : List ℕ) (w k q : ℕ) → length bs ≡ 8 → ((i : ℕ) → get_or bs i 0 < 256) → w ≡ from_le_bytes w64 bs
    → marked w ≡ q * 2 ^ (8 * k) → AllByRecursion (λ x. x < 10) (take k (worths bs))
front_found bs w k q long small is found =
    let worth = worth_eight bs w long small is in
    let size : length (worths bs) ≡ 8 = simp length-map long in
    let sevens : filled 118 (worths bs) ≡ 0x7676_7676_7676_7676 = filled_eight 118 (worths bs) size in
    let eights : filled 128 (worths bs) ≡ 0x8080_8080_8080_8080 = filled_eight 128 (worths bs) size in
    let fits : others (worths bs) < 2 ^ 64 = omega (arith, and_le_r (bit_or (word (worths bs) + filled 118 (worths bs)) (word (worths bs))) (filled 128 (worths bs))) in
    let whole : others (worths bs) ≡ others (worths bs) % 2 ^ 64 = omega arith in
    let same : others (worths bs) ≡ read (word (worths bs)) = (λ i. bit_and (bit_or (word (worths bs) + sevens i) (word (worths bs))) (eights i)) in
    let apart = uncarried (bit_xor w 0x3030_3030_3030_3030 + 0x7676_7676_7676_7676) (bit_xor w 0x3030_3030_3030_3030) 0x8080_8080_8080_8080 (omega arith) in
    front_less k (worths bs) q (worths_small bs (small_eight bs long small)) (whole ∙ ap (λ n. n % 2 ^ 64) (same ∙ ap read (sym worth)) ∙ sym apart ∙ found)

-- they are digits
front_digits : (bs : List ℕ) (w k q : ℕ) → length bs ≡ 8 → ((i : ℕ) → get_or bs i 0 < 256) → w ≡ from_le_bytes w64 bs
    → marked w ≡ q * 2 ^ (8 * k) → all_ascii_digits (take k bs) ≡ true
front_digits bs w k q long small is found = (front_digit k bs (front_found bs w k q long small is found)).0

-- the word that the function makes of the bytes is that of eight digits: as many zeros as there are other bytes, and those at the front
padded_word : (bs : List ℕ) (w k m q n : ℕ) → length bs ≡ 8 → ((i : ℕ) → get_or bs i 0 < 256) → w ≡ from_le_bytes w64 bs
    → marked w ≡ q * 2 ^ (8 * k) → k + m ≡ 8 → n ≡ bit_xor w 0x3030_3030_3030_3030 * 2 ^ (8 * m) % 2 ^ 64
    → (length (replicate m 48 ++ take k bs) ≡ 8) × (all_ascii_digits (replicate m 48 ++ take k bs) ≡ true) × (n + 0x3030_3030_3030_3030 ≡ from_le_bytes w64 (replicate m 48 ++ take k bs))
padded_word bs w k m q n long small is found eight n_is =
    let ds = replicate m 48 ++ take k bs in
    let less = front_found bs w k q long small is found in
    let (digits, values) = front_digit k bs less in
    let all : all_ascii_digits ds ≡ true = padded_all m (take k bs) digits in
    let size : length ds ≡ 8 = omega (arith, length-append (replicate m 48) (take k bs), length-replicate {A = ℕ}, length-take-le k bs (omega arith)) in
    let value : word (replicate m 0 ++ take k (worths bs)) ≡ word (map (λ b. b - 48) ds) = ap (λ l. word (replicate m 0 ++ l)) values ∙ ap word (sym (padded_lowered m (take k bs))) in
    let moved = shifted k m (worths bs) eight (simp length-map (omega arith)) less in
    let worth = worth_eight bs w long small is in
    let number : n ≡ word (map (λ b. b - 48) ds) = n_is ∙ ap (λ x. x * 2 ^ (8 * m) % 2 ^ 64) worth ∙ moved ∙ value in
    let zeros : filled 48 ds ≡ 0x3030_3030_3030_3030 = filled_eight 48 ds size in
    let own = word_eight ds size in
    let same = (lowered ds all).0 in
    (size, all, omega arith)

-- the number that the function reads of the bytes is what the digits at the front write
padded_number : (bs : List ℕ) (w k m q n v : ℕ) → length bs ≡ 8 → ((i : ℕ) → get_or bs i 0 < 256) → w ≡ from_le_bytes w64 bs → marked w ≡ q * 2 ^ (8 * k) → k + m ≡ 8
    → n ≡ bit_xor w 0x3030_3030_3030_3030 * 2 ^ (8 * m) % 2 ^ 64 → ((ds : List ℕ) → length ds ≡ 8 → all_ascii_digits ds ≡ true → n + 0x3030_3030_3030_3030 ≡ from_le_bytes w64 ds → v ≡ digits_value 10 ds)
    → v ≡ digits_value 10 (take k bs)
padded_number bs w k m q n v long small is found eight n_is reads =
    let (size, all, word_is) = padded_word bs w k m q n long small is found eight n_is in
    reads (replicate m 48 ++ take k bs) size all word_is ∙ padded_value m (take k bs)

-- all eight are digits
pub all_digits : (bs : List ℕ) (w : ℕ) → length bs ≡ 8 → ((i : ℕ) → get_or bs i 0 < 256) → w ≡ from_le_bytes w64 bs → marked w ≡ 0 → all_ascii_digits (take 8 bs) ≡ true
all_digits bs w long small is none = front_digits bs w 8 0 long small is none

-- and their number is read of the worth as it is
pub all_number : (bs : List ℕ) (w v : ℕ) → length bs ≡ 8 → ((i : ℕ) → get_or bs i 0 < 256) → w ≡ from_le_bytes w64 bs → marked w ≡ 0
    → ((ds : List ℕ) → length ds ≡ 8 → all_ascii_digits ds ≡ true → bit_xor w 0x3030_3030_3030_3030 + 0x3030_3030_3030_3030 ≡ from_le_bytes w64 ds → v ≡ digits_value 10 ds) → v ≡ digits_value 10 (take 8 bs)
all_number bs w v long small is none reads =
    let fits : bit_xor w 0x3030_3030_3030_3030 < 2 ^ 64 = xor_lt 64 w 0x3030_3030_3030_3030 (omega (arith, small 0, small 1, small 2, small 3, small 4, small 5, small 6, small 7)) (omega arith) in
    padded_number bs w 8 0 0 _ v long small is none refl (omega arith) reads

-- whole bytes of zeros
found_zeros : (n : ℕ) → (q : ℕ) × (n ≡ q * 2 ^ (8 * (count_trailing_zeros 64 n / 8)))
found_zeros n = let (q, is) = zeros_of 64 n in (q * 2 ^ (count_trailing_zeros 64 n % 8), bytes_of_zeros n q (count_trailing_zeros 64 n) is)

-- which are eight at the most
pub few_zeros : (n : ℕ) → count_trailing_zeros 64 n / 8 ≤ 8
few_zeros n = omega (arith, trailing_le 64 n)

-- those at the front are digits
pub some_digits : (bs : List ℕ) (w : ℕ) → length bs ≡ 8 → ((i : ℕ) → get_or bs i 0 < 256) → w ≡ from_le_bytes w64 bs → all_ascii_digits (take (count_trailing_zeros 64 (marked w) / 8) bs) ≡ true
some_digits bs w long small is = let (q, found) = found_zeros (marked w) in front_digits bs w (count_trailing_zeros 64 (marked w) / 8) q long small is found

-- and their number is read of the worth that was shifted
pub some_number : (bs : List ℕ) (w k n v : ℕ) → length bs ≡ 8 → ((i : ℕ) → get_or bs i 0 < 256) → w ≡ from_le_bytes w64 bs → k ≡ count_trailing_zeros 64 (marked w) / 8 → k ≢ 0
    → n ≡ bit_xor w 0x3030_3030_3030_3030 * 2 ^ ((64 - 8 * k) % 64) % 2 ^ 64
    → ((ds : List ℕ) → length ds ≡ 8 → all_ascii_digits ds ≡ true → n + 0x3030_3030_3030_3030 ≡ from_le_bytes w64 ds → v ≡ digits_value 10 ds) → v ≡ digits_value 10 (take k bs)
some_number bs w k n v long small is count some n_is reads =
    let most : k ≤ 8 = omega (arith, few_zeros (marked w)) in
    let (q, found) = found_zeros (marked w) in
    let by : (64 - 8 * k) % 64 ≡ 8 * (8 - k) = omega arith in
    padded_number bs w k (8 - k) q n v long small is (found ∙ ap (λ c. q * 2 ^ (8 * c)) (sym count)) (omega arith) (n_is ∙ ap (λ e. bit_xor w 0x3030_3030_3030_3030 * 2 ^ e % 2 ^ 64) by) reads

-- ---- the number that eight digits write

-- each second byte is left
kept_byte : (w m q p : ℕ) → q < 256 → p < 256 → bit_and (w * 65536 + (q * 256 + p)) (m * 65536 + 255) ≡ bit_and w m * 65536 + p
kept_byte w m q p small_q small_p =
    let low : (q * 256 + p) % 256 ≡ p = omega arith in
    let parts : bit_and (w * 65536 + (q * 256 + p)) (m * 65536 + 255) ≡ bit_and w m * 65536 + bit_and (q * 256 + p) 255 = and_block 16 w m (q * 256 + p) 255 (omega arith) (omega arith) in
    parts ∙ ap (λ n. bit_and w m * 65536 + n) (and_mask (q * 256 + p) 8 ∙ low)

-- so is the last
last_byte : (p : ℕ) → p < 256 → bit_and p 255 ≡ p
last_byte p small = let low : p % 256 ≡ p = omega arith in and_mask p 8 ∙ low

-- and each second two bytes
kept_two : (w q p : ℕ) → w < 65536 → q < 65536 → p < 65536 → bit_and (w * 4294967296 + (q * 65536 + p)) 0x0000_ffff_0000_ffff ≡ w * 4294967296 + p
kept_two w q p small_w small_q small_p =
    let low : (q * 65536 + p) % 65536 ≡ p = omega arith in
    let high : w % 65536 ≡ w = omega arith in
    let parts : bit_and (w * 4294967296 + (q * 65536 + p)) 0x0000_ffff_0000_ffff ≡ bit_and w 65535 * 4294967296 + bit_and (q * 65536 + p) 65535 = and_block 32 w 65535 (q * 65536 + p) 65535 (omega arith) (omega arith) in
    parts ∙ (λ i. (and_mask w 16 ∙ high) i * 4294967296 + (and_mask (q * 65536 + p) 16 ∙ low) i)

-- pairs of digits, from the digits
pairs_are : (a b c d e f g h ds : ℕ) → AllByRecursion (λ d. d < 10) (a ∷ b ∷ c ∷ d ∷ e ∷ f ∷ g ∷ h ∷ []) → ds ≡ word (a ∷ b ∷ c ∷ d ∷ e ∷ f ∷ g ∷ h ∷ [])
    → bit_and (ds * 2561 % 18446744073709551616 / 256) 0x00ff_00ff_00ff_00ff ≡ (((10 * g + h) * 65536 + (10 * e + f)) * 65536 + (10 * c + d)) * 65536 + (10 * a + b)
pairs_are a b c d e f g h ds small is =
    let (s_a, (s_b, (s_c, (s_d, (s_e, (s_f, (s_g, (s_h, _)))))))) = small in
    let top = 10 * g + h in
    let third = top * 65536 + ((10 * f + g) * 256 + (10 * e + f)) in
    let second = third * 65536 + ((10 * d + e) * 256 + (10 * c + d)) in
    let sum : ds * 2561 ≡ 10 * h * 18446744073709551616 + ((second * 65536 + ((10 * b + c) * 256 + (10 * a + b))) * 256 + a) = omega arith in
    let moved : ds * 2561 % 18446744073709551616 / 256 ≡ second * 65536 + ((10 * b + c) * 256 + (10 * a + b)) = omega arith in
    let one : bit_and third 0x00ff_00ff ≡ top * 65536 + (10 * e + f) = kept_byte top 255 (10 * f + g) (10 * e + f) (omega arith) (omega arith) ∙ ap (λ n. n * 65536 + (10 * e + f)) (last_byte top (omega arith)) in
    let two : bit_and second 0x00ff_00ff_00ff ≡ (top * 65536 + (10 * e + f)) * 65536 + (10 * c + d) = kept_byte third 0x00ff_00ff (10 * d + e) (10 * c + d) (omega arith) (omega arith) ∙ ap (λ n. n * 65536 + (10 * c + d)) one in
    ap (λ n. bit_and n 0x00ff_00ff_00ff_00ff) moved ∙ kept_byte second 0x00ff_00ff_00ff (10 * b + c) (10 * a + b) (omega arith) (omega arith) ∙ ap (λ n. n * 65536 + (10 * a + b)) two

-- fours, from the pairs
fours_are : (p q r s ps : ℕ) → p < 100 → q < 100 → r < 100 → s < 100 → ps ≡ ((s * 65536 + r) * 65536 + q) * 65536 + p
    → bit_and (ps * 6553601 % 18446744073709551616 / 65536) 0x0000_ffff_0000_ffff ≡ (100 * r + s) * 4294967296 + (100 * p + q)
fours_are p q r s ps s_p s_q s_r s_s is =
    let sum : ps * 6553601 ≡ 100 * s * 18446744073709551616 + (((100 * r + s) * 4294967296 + ((100 * q + r) * 65536 + (100 * p + q))) * 65536 + p) = omega arith in
    let moved : ps * 6553601 % 18446744073709551616 / 65536 ≡ (100 * r + s) * 4294967296 + ((100 * q + r) * 65536 + (100 * p + q)) = omega arith in
    ap (λ n. bit_and n 0x0000_ffff_0000_ffff) moved ∙ kept_two (100 * r + s) (100 * q + r) (100 * p + q) (omega arith) (omega arith) (omega arith)

-- the number, from the fours
eight_are_worth : (p q fs : ℕ) → p < 10000 → q < 10000 → fs ≡ q * 4294967296 + p → fs * 42949672960001 % 18446744073709551616 / 4294967296 ≡ 10000 * p + q
eight_are_worth p q fs s_p s_q is =
    let sum : fs * 42949672960001 ≡ 10000 * q * 18446744073709551616 + ((10000 * p + q) * 4294967296 + p) = omega arith in
    omega arith

-- what the function computes
abbrev pub eight_value : ℕ → ℕ
eight_value ds =
    bit_and (bit_and (ds * 2561 % 18446744073709551616 / 256) 0x00ff_00ff_00ff_00ff * 6553601 % 18446744073709551616 / 65536) 0x0000_ffff_0000_ffff * 42949672960001 % 18446744073709551616 / 4294967296

-- it is the number that the digits write
in_places : (a b c d e f g h ds : ℕ) → AllByRecursion (λ d. d < 10) (a ∷ b ∷ c ∷ d ∷ e ∷ f ∷ g ∷ h ∷ []) → ds ≡ word (a ∷ b ∷ c ∷ d ∷ e ∷ f ∷ g ∷ h ∷ [])
    → eight_value ds ≡ (((((((a * 10 + b) * 10 + c) * 10 + d) * 10 + e) * 10 + f) * 10 + g) * 10 + h)
in_places a b c d e f g h ds small is =
    let (s_a, (s_b, (s_c, (s_d, (s_e, (s_f, (s_g, (s_h, _)))))))) = small in
    let pairs = pairs_are a b c d e f g h ds small is in
    let fours = fours_are (10 * a + b) (10 * c + d) (10 * e + f) (10 * g + h) _ (omega arith) (omega arith) (omega arith) (omega arith) pairs in
    eight_are_worth (100 * (10 * a + b) + (10 * c + d)) (100 * (10 * e + f) + (10 * g + h)) _ (omega arith) (omega arith) fours ∙ omega arith

-- what eight digits write
pub read_eight : (bs : List ℕ) (ds : ℕ) → length bs ≡ 8 → all_ascii_digits bs ≡ true → ds + 0x3030_3030_3030_3030 ≡ from_le_bytes w64 bs → eight_value ds ≡ digits_value 10 bs
read_eight bs ds long all is =
    let digits : all_ascii_digits (eight_of bs) ≡ true = ap all_ascii_digits (sym (eight_are bs long)) ∙ all in
    let (same, small) = lowered (eight_of bs) digits in
    let number = in_places (get_or bs 0 0 - 48) (get_or bs 1 0 - 48) (get_or bs 2 0 - 48) (get_or bs 3 0 - 48) (get_or bs 4 0 - 48) (get_or bs 5 0 - 48) (get_or bs 6 0 - 48) (get_or bs 7 0 - 48) ds small (omega arith) in
    let value : digits_value 10 (eight_of bs) ≡ value_on 0 (eight_of bs) = value_on_digits (eight_of bs) 0 digits in
    number ∙ omega arith ∙ ap (digits_value 10) (sym (eight_are bs long))

-- ---- the first bytes of a text

-- the first bytes are as small as all
pub small_front : (n : ℕ) (text : List ℕ) → ((i : ℕ) → get_or text i 0 < 256) → (i : ℕ) → get_or (take n text) i 0 < 256
small_front zero text small i = omega arith
small_front (suc n) [] small i = omega arith
small_front (suc n) (b ∷ text) small zero = small 0
small_front (suc n) (b ∷ text) small (suc i) = small_front n text (λ j. small (suc j)) i

-- eight bytes as one lane of a vector
pub one_lane : (text : List ℕ) → 8 ≤ length text → ((i : ℕ) → get_or text i 0 < 256) → number_l 256 (take 8 text) % 2 ^ 64 ≡ from_le_bytes w64 (take 8 text)
one_lane text long small =
    let low = small_front 8 text small in
    let s0 = low 0 in let s1 = low 1 in let s2 = low 2 in let s3 = low 3 in
    let s4 = low 4 in let s5 = low 5 in let s6 = low 6 in let s7 = low 7 in
    ap (λ l. number_l 256 l % 2 ^ 64) (eight_are (take 8 text) (length-take-le 8 text long)) ∙ omega arith

-- fewer of them are those of the first eight
pub fewer : (k : ℕ) (text : List ℕ) → k ≤ 8 → take k text ≡ take k (take 8 text)
fewer k text few = sym (take-take k 8 text few)
