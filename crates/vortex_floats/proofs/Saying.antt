-- A comparison with a float says of each cell what its test says.
use Rattle.std.proofs.Common.{◌≡◌, ℕ, zero, suc, ◌+◌, ◌%◌, ◌<◌, ◌≤◌, ◌⊎◌, inl, inr, Bool, true, false, ◌&&◌, ◌||◌, refl, sym, ◌∙◌, ap, subst, arith}
use Rattle.std.specs.Prelude.{ℤ, pos, negsuc, nat_le, nat_lt, int_lt, IfSome, Option, Some, None, if◌then◌else◌, ◌<ℤ◌, ◌≤ℤ◌}
use Rattle.std.specs.Ordering.{int_cmp}
use Rattle.std.proofs.lemmas.Bool.Decides.{nat_tests}
use Rattle.std.proofs.lemmas.Int.{ints}
use Rattle.vortex_logical.specs.declared.comparison.Comparison.{Comparison}
use Rattle.vortex_logical.specs.declared.comparison.Comparison.TheVariants as comparison
use Rattle.vortex_logical.specs.declared.float_type.FloatType.{FloatType}
use Rattle.vortex_logical.specs.declared.float_test.FloatTest.{FloatTest}
use Rattle.vortex_logical.specs.declared.float_type.FloatType.TheVariants.{F16, F32, F64}
use Rattle.vortex_logical.specs.declared.float_test.NanMeaning.{NanMeaning}
use Rattle.vortex_logical.specs.declared.float_test.NanMeaning.TheVariants.{Greatest, Ieee}
use Rattle.vortex_logical.specs.Meaning.{holds}
use Rattle.vortex_logical.specs.Floats.{bound_of, float_holds, float_test, float_test_holds, ieee_test, infinity_bits, is_nan_bits, key, nan_bits, nan_comparison, sign_bit, signed_key}
use Rattle.vortex_logical.proofs.FloatTests.{floats_compare, greatest_test_is, ieee_test_is}
use Rattle.vortex_logical.proofs.Orders.{cases_int, is_equal, is_greater, is_less}
use Rattle.vortex_floats.specs.Cells.{CellsStandForFloats, MeaningsAgree, RangesAgree, SaysOf, bits_at, cell_test, compared, is_agreed, is_clear, is_told}
use Rattle.vortex_floats.proofs.CellKeys.{infinity_below_nan, key_of_infinity, key_of_least, key_of_minus_infinity, key_of_nan_bits, key_of_negative, key_of_size}

-- ---- the number of a finite float

record IsClear (t : FloatType) (k : ℤ) : Type 0 where
  pub low : negsuc (infinity_bits t) <ℤ k
  pub high : k <ℤ pos (infinity_bits t)
  pub apart : (k <ℤ negsuc 1) ⊎ (negsuc 0 <ℤ k)

lt_whole : (x y : ℤ) → int_lt x y ≡ true → x <ℤ y
lt_whole x y h = grind (arith, ints)

is_lt : (x y : ℤ) → x <ℤ y → int_lt x y ≡ true
is_lt x y h = grind (arith, ints)

not_lt : (x y : ℤ) → y ≤ℤ x → int_lt x y ≡ false
not_lt x y h = grind (arith, ints)

left_true : (a b : Bool) → (a && b) ≡ true → a ≡ true
left_true true b h = refl
left_true false b h = absurd cc

right_true : (a b : Bool) → (a && b) ≡ true → b ≡ true
right_true true b h = h
right_true false b h = absurd cc

either : (a b : Bool) → (a || b) ≡ true → (a ≡ true) ⊎ (b ≡ true)
either true b h = inl refl
either false b h = inr h

apart_by : (k : ℤ) → (int_lt k (negsuc 1) ≡ true) ⊎ (int_lt (negsuc 0) k ≡ true) → (k <ℤ negsuc 1) ⊎ (negsuc 0 <ℤ k)
apart_by k (inl h) = inl (lt_whole _ _ h)
apart_by k (inr h) = inr (lt_whole _ _ h)

clear : (t : FloatType) (k : ℤ) → is_clear t k ≡ true → IsClear t k
clear t k h =
    let low = int_lt (negsuc (infinity_bits t)) k in
    let high = int_lt k (pos (infinity_bits t)) in
    let far = int_lt k (negsuc 1) || int_lt (negsuc 0) k in
    let rest = right_true low (high && far) h in
    record {
      low = lt_whole _ _ (left_true low (high && far) h);
      high = lt_whole _ _ (left_true high far rest);
      apart = apart_by k (either (int_lt k (negsuc 1)) (int_lt (negsuc 0) k) (right_true high far rest));
    }

-- ---- two whole numbers that lie alike beside that of a float

record AreAlike (t : FloatType) (k x n : ℤ) : Type 0 where
  pub order : int_cmp x k ≡ int_cmp n k
  pub bound : int_lt x (pos (nan_bits t)) ≡ int_lt n (pos (nan_bits t))

same : (t : FloatType) (k x n : ℤ) → x ≡ n → AreAlike t k x n
same t k x n e = record { order = ap (λ z. int_cmp z k) e; bound = ap (λ z. int_lt z (pos (nan_bits t))) e }

-- both above it and below NaN's, or from NaN's on
both_above : (t : FloatType) (k x n : ℤ) → k <ℤ x → k <ℤ n → x <ℤ pos (nan_bits t) → n <ℤ pos (nan_bits t) → AreAlike t k x n
both_above t k x n a b c d = record { order = is_greater x k a ∙ sym (is_greater n k b); bound = is_lt x _ c ∙ sym (is_lt n _ d) }

both_past : (t : FloatType) (k x n : ℤ) → k <ℤ x → k <ℤ n → pos (nan_bits t) ≤ℤ x → pos (nan_bits t) ≤ℤ n → AreAlike t k x n
both_past t k x n a b c d = record { order = is_greater x k a ∙ sym (is_greater n k b); bound = not_lt x _ c ∙ sym (not_lt n _ d) }

both_below : (t : FloatType) (k x n : ℤ) → x <ℤ k → n <ℤ k → x <ℤ pos (nan_bits t) → n <ℤ pos (nan_bits t) → AreAlike t k x n
both_below t k x n a b c d = record { order = is_less x k a ∙ sym (is_less n k b); bound = is_lt x _ c ∙ sym (is_lt n _ d) }

number_le : (m n : ℕ) → nat_le m n ≡ true → m ≤ n
number_le m n h = grind (arith, nat_tests)

number_over : (m n : ℕ) → nat_le m n ≡ false → n < m
number_over m n h = grind (arith, nat_tests)

number_lt : (m n : ℕ) → nat_lt m n ≡ true → m < n
number_lt m n h = grind (arith, nat_tests)

number_from : (m n : ℕ) → nat_lt m n ≡ false → n ≤ m
number_from m n h = grind (arith, nat_tests)

-- ---- the number of a cell and that of its float

module _ (t : FloatType) (k : ℤ) (c : IsClear t k) where
  nan_above : infinity_bits t < nan_bits t
  nan_above = infinity_below_nan t

  above_by : (m : ℕ) (a b : Bool) → nat_le m (infinity_bits t) ≡ a → nat_lt m (nan_bits t) ≡ b
      → AreAlike t k (key t (if a then m else (if b then infinity_bits t else nan_bits t))) (pos m)
  above_by m true b h l = same t k _ _ (key_of_size t m (number_le m (infinity_bits t) h))
  above_by m false true h l =
      let over = number_over m (infinity_bits t) h in
      let under = number_lt m (nan_bits t) l in
      let high = c.high in
      let above = nan_above in
      subst (λ x. AreAlike t k x (pos m)) (sym (key_of_infinity t)) (both_above t k (pos (infinity_bits t)) (pos m) high (omega (arith, ints)) (omega (arith, ints)) (omega (arith, ints)))
  above_by m false false h l =
      let from = number_from m (nan_bits t) l in
      let high = c.high in
      let above = nan_above in
      subst (λ x. AreAlike t k x (pos m)) (sym (key_of_nan_bits t)) (both_past t k (pos (nan_bits t)) (pos m) (omega (arith, ints)) (omega (arith, ints)) (omega (arith, ints)) (omega (arith, ints)))

  below_by : (m : ℕ) (a : Bool) → nat_le (suc m) (infinity_bits t) ≡ a
      → AreAlike t k (key t (sign_bit t + (if a then suc m else infinity_bits t))) (negsuc (suc m))
  below_by m true h = same t k _ _ (key_of_negative t m (number_le (suc m) (infinity_bits t) h))
  below_by m false h =
      let over = number_over (suc m) (infinity_bits t) h in
      let low = c.low in
      subst (λ x. AreAlike t k x (negsuc (suc m))) (sym (key_of_minus_infinity t))
      (both_below t k (negsuc (infinity_bits t)) (negsuc (suc m)) low (omega (arith, ints)) (omega (arith, ints)) (omega (arith, ints)))

  least_by : (k <ℤ negsuc 1) ⊎ (negsuc 0 <ℤ k) → AreAlike t k (negsuc 1) (negsuc 0)
  least_by (inl l) = both_above t k (negsuc 1) (negsuc 0) l (omega (arith, ints)) (omega (arith, ints)) (omega (arith, ints))
  least_by (inr g) = both_below t k (negsuc 1) (negsuc 0) (omega (arith, ints)) g (omega (arith, ints)) (omega (arith, ints))

  alike : (n : ℤ) → AreAlike t k (key t (bits_at t n)) n
  alike (pos m) = above_by m (nat_le m (infinity_bits t)) (nat_lt m (nan_bits t)) refl refl
  alike (negsuc zero) = subst (λ x. AreAlike t k x (negsuc zero)) (sym (key_of_least t)) (least_by c.apart)
  alike (negsuc (suc m)) = below_by m (nat_le (suc m) (infinity_bits t)) refl

-- ---- the tests

moved_by : (t : FloatType) (c : Comparison) (k x n : ℤ) (o : Option ℤ) → (o ≡ None) ⊎ (o ≡ Some (pos (nan_bits t))) → AreAlike t k x n
    → float_test_holds x (float_test c k o) ≡ float_test_holds n (float_test c k o)
moved_by t c k x n o (inl e) alike =
    ap (λ p. float_test_holds x (float_test c k p)) e ∙ ap (λ z. holds c z && true) alike.order ∙ sym (ap (λ p. float_test_holds n (float_test c k p)) e)
moved_by t c k x n o (inr e) alike =
    ap (λ p. float_test_holds x (float_test c k p)) e
    ∙ ap (λ z. holds c z && int_lt x (pos (nan_bits t))) alike.order ∙ ap (λ z. holds c (int_cmp n k) && z) alike.bound
    ∙ sym (ap (λ p. float_test_holds n (float_test c k p)) e)

bound_is : (t : FloatType) (c : Comparison) → (bound_of t c ≡ None) ⊎ (bound_of t c ≡ Some (pos (nan_bits t)))
bound_is t comparison.Eq = inl refl
bound_is t comparison.NotEq = inl refl
bound_is t comparison.Gt = inr refl
bound_is t comparison.Gte = inr refl
bound_is t comparison.Lt = inl refl
bound_is t comparison.Lte = inl refl

agreed_bound : (t : FloatType) (c : Comparison) → is_agreed c ≡ true → bound_of t c ≡ None
agreed_bound t comparison.Eq h = refl
agreed_bound t comparison.NotEq h = refl
agreed_bound t comparison.Gt h = absurd cc
agreed_bound t comparison.Gte h = absurd cc
agreed_bound t comparison.Lt h = refl
agreed_bound t comparison.Lte h = refl

-- the number of a finite float is that of no NaN
no_nan_by : (t : FloatType) (b : ℕ) (z : Bool) → is_nan_bits t b ≡ z → IsClear t (key t b) → z ≡ false
no_nan_by t b false h c = refl
no_nan_by t b true h c =
    let is : key t b ≡ pos (nan_bits t) = ap (λ (z : Bool). if z then pos (nan_bits t) else signed_key (nat_le (sign_bit t) b) (b % sign_bit t)) h in
    let high = c.high in
    let above = infinity_below_nan t in
    absurd (omega (arith, ints))

ieee_is_with : (t : FloatType) (c : Comparison) (b : ℕ) → is_nan_bits t b ≡ false → ieee_test t c b ≡ float_test c (key t b) (bound_of t c)
ieee_is_with t c b h = ap (λ (z : Bool). if z then float_test (nan_comparison c) (key t b) None else float_test c (key t b) (bound_of t c)) h

module _ (t : FloatType) (c : Comparison) (b : ℕ) (clear : IsClear t (key t b)) (n : ℤ) where
  by_greatest : float_holds Greatest t c (bits_at t n) b ≡ float_test_holds n (float_test c (key t b) None)
  by_greatest = greatest_test_is t c (bits_at t n) b ∙ moved_by t c (key t b) (key t (bits_at t n)) n None (inl refl) (alike t (key t b) clear n)

  by_ieee : float_holds Ieee t c (bits_at t n) b ≡ float_test_holds n (float_test c (key t b) (bound_of t c))
  by_ieee =
      ieee_test_is t c (bits_at t n) b
      ∙ ap (float_test_holds (key t (bits_at t n))) (ieee_is_with t c b (no_nan_by t b (is_nan_bits t b) refl clear))
      ∙ moved_by t c (key t b) (key t (bits_at t n)) n (bound_of t c) (bound_is t c) (alike t (key t b) clear n)

told_says : (t : FloatType) (said : Option NanMeaning) (c : Comparison) (b : ℕ) → is_told said c ≡ true → IsClear t (key t b) → SaysOf t said c b (cell_test t said c b)
told_says t (Some Greatest) c b told clear Greatest is n = by_greatest t c b clear n
told_says t (Some Greatest) c b told clear Ieee is n = absurd cc
told_says t (Some Ieee) c b told clear Greatest is n = absurd cc
told_says t (Some Ieee) c b told clear Ieee is n = by_ieee t c b clear n
told_says t None c b told clear Greatest is n = by_greatest t c b clear n
told_says t None c b told clear Ieee is n = by_ieee t c b clear n ∙ ap (λ o. float_test_holds n (float_test c (key t b) o)) (agreed_bound t c told)

says_by : (t : FloatType) (said : Option NanMeaning) (c : Comparison) (b : ℕ) (z : Bool) → (is_told said c && is_clear t (key t b)) ≡ z
    → IfSome (if z then Some (cell_test t said c b) else None) (SaysOf t said c b)
says_by t said c b true h = told_says t said c b (left_true (is_told said c) (is_clear t (key t b)) h) (clear t (key t b) (right_true (is_told said c) (is_clear t (key t b)) h))
says_by t said c b false h = tt {0}

pub compared_says : (t : FloatType) (said : Option NanMeaning) (c : Comparison) (b : ℕ) → IfSome (compared t said c b) (SaysOf t said c b)
compared_says t said c b = says_by t said c b (is_told said c && is_clear t (key t b)) refl

-- ---- cells stand for floats

is_le : (m n : ℕ) → m ≤ n → nat_le m n ≡ true
is_le m n h = grind (arith, nat_tests)

nan_again : (t : FloatType) → key t (bits_at t (pos (nan_bits t))) ≡ pos (nan_bits t)
nan_again F16 = refl
nan_again F32 = refl
nan_again F64 = refl

size_again : (t : FloatType) (m : ℕ) → m ≤ infinity_bits t → key t (bits_at t (pos m)) ≡ pos m
size_again t m h = ap (λ (z : Bool). key t (if z then m else (if nat_lt m (nan_bits t) then infinity_bits t else nan_bits t))) (is_le m (infinity_bits t) h) ∙ key_of_size t m h

signed_again : (t : FloatType) (s : Bool) (m : ℕ) → m ≤ infinity_bits t → key t (bits_at t (signed_key s m)) ≡ signed_key s m
signed_again t false m h = size_again t m h
signed_again t true zero h = size_again t 0 h
signed_again t true (suc m) h = ap (λ (z : Bool). key t (sign_bit t + (if z then suc m else infinity_bits t))) (is_le (suc m) (infinity_bits t) h) ∙ key_of_negative t m h

again_by : (t : FloatType) (b : ℕ) (z : Bool) → is_nan_bits t b ≡ z → key t (bits_at t (key t b)) ≡ key t b
again_by t b true h =
    let is : key t b ≡ pos (nan_bits t) = ap (λ (z : Bool). if z then pos (nan_bits t) else signed_key (nat_le (sign_bit t) b) (b % sign_bit t)) h in
    ap (λ k. key t (bits_at t k)) is ∙ nan_again t ∙ sym is
again_by t b false h =
    let is : key t b ≡ signed_key (nat_le (sign_bit t) b) (b % sign_bit t) = ap (λ (z : Bool). if z then pos (nan_bits t) else signed_key (nat_le (sign_bit t) b) (b % sign_bit t)) h in
    ap (λ k. key t (bits_at t k)) is ∙ signed_again t (nat_le (sign_bit t) b) (b % sign_bit t) (number_from (infinity_bits t) (b % sign_bit t) h) ∙ sym is

pub cells_stand : CellsStandForFloats
cells_stand t b = floats_compare t (bits_at t (key t b)) b ∙ is_equal _ _ (again_by t b (is_nan_bits t b) refl)

pub meanings_agree : MeaningsAgree
meanings_agree t c b test h n =
    let says : SaysOf t None c b test = subst (λ (found : Option FloatTest). IfSome found (SaysOf t None c b)) h (compared_says t None c b) in
    says Greatest tt n ∙ sym (says Ieee tt n)

-- ---- ranges

and_false : (x y r : Bool) → r ≡ false → (x && r) ≡ (y && r)
and_false true true r h = refl
and_false true false r h = h
and_false false true r h = sym h
and_false false false r h = refl

abbrev at_most : ℤ → ℤ → Bool
at_most n k = holds comparison.Lte (int_cmp n k) && true

-- what is at most a number below NaN's is below NaN's
range_by : (g : Bool) (n k nan : ℤ) → k <ℤ nan → ((g && true) && at_most n k) ≡ ((g && int_lt n nan) && at_most n k)
range_by g n k nan below =
    cases_int n k
    (λ less. ap (λ z. (g && z) && at_most n k) (sym (is_lt n nan (omega (arith, ints, less, below)))))
    (λ same. ap (λ z. (g && z) && at_most n k) (sym (is_lt n nan (omega (arith, ints, same, below)))))
    (λ above. and_false (g && true) (g && int_lt n nan) (at_most n k) (ap (λ o. holds comparison.Lte o && true) (is_greater n k above)))

pub ranges_agree : RangesAgree
ranges_agree t low high l h n =
    let a = clear t (key t low) l in
    let b = clear t (key t high) h in
    let below : key t high <ℤ pos (nan_bits t) = let top = b.high in let above = infinity_below_nan t in omega (arith, ints) in
    ap (λ z. z && float_holds Greatest t comparison.Lte (bits_at t n) high) (by_greatest t comparison.Gte low a n)
    ∙ ap (λ z. float_test_holds n (float_test comparison.Gte (key t low) None) && z) (by_greatest t comparison.Lte high b n)
    ∙ range_by (holds comparison.Gte (int_cmp n (key t low))) n (key t high) (pos (nan_bits t)) below
    ∙ sym (ap (λ z. z && float_holds Ieee t comparison.Lte (bits_at t n) high) (by_ieee t comparison.Gte low a n)
    ∙ ap (λ z. float_test_holds n (float_test comparison.Gte (key t low) (Some (pos (nan_bits t)))) && z) (by_ieee t comparison.Lte high b n))
