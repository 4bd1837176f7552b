-- The bits of numbers that are made of bits.
use Rattle.std.proofs.Common.{◌≡◌, ℕ, zero, suc, ◌+◌, ◌*◌, ◌/◌, ◌%◌, ◌^◌, ◌≤◌, ◌==◌, Bool, true, false, ◌||◌, List, [], ◌∷◌, refl, sym, ap, ◌∙◌, arith, lit≤, subst}
use Rattle.std.proofs.Math.Nat.{div-div-eq-div-mul, pow-succ', zero-div}
use Rattle.std.proofs.lemmas.List.{get_or_past}
use Rattle.std.proofs.lemmas.Bool.Decides.{nat_tests}
use Rattle.vortex_stats.specs.declared.stat.Stat.{Stat}
use Rattle.vortex_stats.specs.declared.stat.Stat.TheVariants.{IsConstant, IsSorted, IsStrictSorted, Max, Min, Sum, NullCount, UncompressedSizeInBytes, NaNCount}
use Rattle.vortex_stats.specs.Stat.{stat_number}
use Rattle.vortex_stats.specs.Sets.Bitset.{bit_of, is_set, has_number, IsBitsetOf, bit, number_of, bit_at, low_bits, high_bits}

zero_bit : (k : ℕ) → bit_of 0 k ≡ false
zero_bit k = ap (λ x. x % 2 == 1) (zero-div (2 ^ k))

least_bit : (b : Bool) (m : ℕ) → bit_of (bit b + 2 * m) 0 ≡ b
least_bit true m = let e : (1 + 2 * m) / 2 ^ 0 % 2 ≡ 1 = omega arith in ap (λ x. x == 1) e
least_bit false m = let e : (0 + 2 * m) / 2 ^ 0 % 2 ≡ 0 = omega arith in ap (λ x. x == 1) e

halved : (b : Bool) (m : ℕ) → (bit b + 2 * m) / 2 ≡ m
halved true m = omega arith
halved false m = omega arith

next_bit : (b : Bool) (m k : ℕ) → bit_of (bit b + 2 * m) (suc k) ≡ bit_of m k
next_bit b m k =
    ap (λ d. (bit b + 2 * m) / d % 2 == 1) (pow-succ' 2 k)
    ∙ ap (λ x. x % 2 == 1) (sym (div-div-eq-div-mul (bit b + 2 * m) 2 (2 ^ k)))
    ∙ ap (λ x. x / 2 ^ k % 2 == 1) (halved b m)

pub bit_of-number_of : (bs : List Bool) (k : ℕ) → bit_of (number_of bs) k ≡ bit_at bs k
bit_of-number_of [] k = zero_bit k
bit_of-number_of (b ∷ bs) zero = least_bit b (number_of bs)
bit_of-number_of (b ∷ bs) (suc k) = next_bit b (number_of bs) k ∙ bit_of-number_of bs k

no_such_number : (n : ℕ) → 9 ≤ n → (s : Stat) → (stat_number s == n) ≡ false
no_such_number n h IsConstant = grind (arith, nat_tests)
no_such_number n h IsSorted = grind (arith, nat_tests)
no_such_number n h IsStrictSorted = grind (arith, nat_tests)
no_such_number n h Max = grind (arith, nat_tests)
no_such_number n h Min = grind (arith, nat_tests)
no_such_number n h Sum = grind (arith, nat_tests)
no_such_number n h NullCount = grind (arith, nat_tests)
no_such_number n h UncompressedSizeInBytes = grind (arith, nat_tests)
no_such_number n h NaNCount = grind (arith, nat_tests)

none_has_number : (stats : List Stat) (n : ℕ) → 9 ≤ n → has_number stats n ≡ false
none_has_number [] n h = refl
none_has_number (s ∷ stats) n h = ap (λ b. b || has_number stats n) (no_such_number n h s) ∙ none_has_number stats n h

module _ (stats : List Stat) (low high : ℕ) (l : low ≡ number_of (low_bits stats)) (h : high ≡ number_of (high_bits stats)) where
  in_low : (k : ℕ) → bit_of low k ≡ bit_at (low_bits stats) k
  in_low k = ap (λ x. bit_of x k) l ∙ bit_of-number_of (low_bits stats) k

  in_high : (k : ℕ) → bit_of high k ≡ bit_at (high_bits stats) k
  in_high k = ap (λ x. bit_of x k) h ∙ bit_of-number_of (high_bits stats) k

  past : (n : ℕ) → 16 ≤ n → is_set (low ∷ high ∷ []) n ≡ has_number stats n
  past n m =
      let out : 2 ≤ n / 8 = omega arith in
      ap (λ x. bit_of x (n % 8)) (get_or_past (low ∷ high ∷ []) (n / 8) 0 out) ∙ zero_bit (n % 8)
      ∙ sym (none_has_number stats n (omega arith))

  unlisted : (n k : ℕ) → 9 ≤ n → bit_at (high_bits stats) k ≡ false → bit_of high k ≡ has_number stats n
  unlisted n k m e = in_high k ∙ e ∙ sym (none_has_number stats n m)

  bits_at : (n : ℕ) → is_set (low ∷ high ∷ []) n ≡ has_number stats n
  bits_at zero = in_low 0
  bits_at (suc zero) = in_low 1
  bits_at (suc (suc zero)) = in_low 2
  bits_at (suc (suc (suc zero))) = in_low 3
  bits_at (suc (suc (suc (suc zero)))) = in_low 4
  bits_at (suc (suc (suc (suc (suc zero))))) = in_low 5
  bits_at (suc (suc (suc (suc (suc (suc zero)))))) = in_low 6
  bits_at (suc (suc (suc (suc (suc (suc (suc zero))))))) = in_low 7
  bits_at (suc (suc (suc (suc (suc (suc (suc (suc zero)))))))) = in_high 0
  bits_at (suc (suc (suc (suc (suc (suc (suc (suc (suc zero))))))))) = unlisted 9 1 (lit≤ tt) refl
  bits_at (suc (suc (suc (suc (suc (suc (suc (suc (suc (suc zero)))))))))) = unlisted 10 2 (lit≤ tt) refl
  bits_at (suc (suc (suc (suc (suc (suc (suc (suc (suc (suc (suc zero))))))))))) = unlisted 11 3 (lit≤ tt) refl
  bits_at (suc (suc (suc (suc (suc (suc (suc (suc (suc (suc (suc (suc zero)))))))))))) = unlisted 12 4 (lit≤ tt) refl
  bits_at (suc (suc (suc (suc (suc (suc (suc (suc (suc (suc (suc (suc (suc zero))))))))))))) = unlisted 13 5 (lit≤ tt) refl
  bits_at (suc (suc (suc (suc (suc (suc (suc (suc (suc (suc (suc (suc (suc (suc zero)))))))))))))) = unlisted 14 6 (lit≤ tt) refl
  bits_at (suc (suc (suc (suc (suc (suc (suc (suc (suc (suc (suc (suc (suc (suc (suc zero))))))))))))))) = unlisted 15 7 (lit≤ tt) refl
  bits_at (suc (suc (suc (suc (suc (suc (suc (suc (suc (suc (suc (suc (suc (suc (suc (suc n)))))))))))))))) = past (suc (suc (suc (suc (suc (suc (suc (suc (suc (suc (suc (suc (suc (suc (suc (suc n)))))))))))))))) (omega arith)

  pub bitset-of_bytes : IsBitsetOf stats (low ∷ high ∷ [])
  bitset-of_bytes = record { two = refl; bits = bits_at }

-- a list of these two bytes
pub bitset_of_items : (stats : List Stat) (low high : ℕ) (items : List ℕ) → low ≡ number_of (low_bits stats) → high ≡ number_of (high_bits stats) → items ≡ low ∷ high ∷ [] → IsBitsetOf stats items
bitset_of_items stats low high items l h e = subst (IsBitsetOf stats) (sym e) (bitset-of_bytes stats low high l h)
