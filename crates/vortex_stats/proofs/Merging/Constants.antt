-- Whether all optional values are equal: of two columns together, and of a column in another order.
use Rattle.std.proofs.Common.{◌≡◌, ℕ, zero, suc, Bool, true, false, cond, ◌||◌, ◌&&◌, List, [], ◌∷◌, ◌++◌, Option, Some, None, refl, sym, ap, ◌∙◌, ⊎_elim, arith}
use Rattle.std.specs.Prelude.{Contains, MatchOption, IsPermutation, Decides, ⊤}
use Rattle.std.specs.declared.cmp.Ordering.TheVariants.{Equal}
use Rattle.std.specs.Ordering.{is_eq}
use Rattle.std.specs.Cmp.{Equal-is, tied_itself}
use Rattle.std.proofs.lemmas.Bool.{and_parts, or_cases, false_from_ne_true}
use Rattle.std.proofs.lemmas.Bool.Decides.{same_from_decides}
use Rattle.std.proofs.lemmas.List.Elements.{All-contains, All-contains_itself, All-weaker, Contains-append_left, Contains-append_right, Contains-append_cases}
use Rattle.std.proofs.lemmas.List.Sorted.{Contains-permutation, IsPermutation-sym}
use Rattle.std.proofs.lemmas.List.Sums.{AllPass-from_list_all, list_all-from_AllPass}
use mathlib.Core.Bool.{true≢false}
use Rattle.vortex_base.specs.declared.scalar_value.ScalarValue.{ScalarValue}
use Rattle.vortex_base.specs.declared.scalar_value.ScalarValue.TheVariants as value
use Rattle.vortex_base.specs.Data.Scalars.{optional_value_eq, optional_value_eq_is_exact}
use Rattle.vortex_base.specs.Data.Values.{value_cmp}
use Rattle.vortex_stats.specs.declared.precision.Precision.{Precision}
use Rattle.vortex_stats.specs.declared.precision.Precision.TheVariants.{Exact, Inexact, Absent}
use Rattle.vortex_stats.specs.Sets.Claims.{is_constant, ClaimsTruth, ClaimsMin}
use Rattle.vortex_stats.specs.Merging.Merges.{is_exact_truth, same_minima, constant_merged, truth}
use Rattle.vortex_stats.specs.Precision.{inexact_of}
use Rattle.vortex_stats.proofs.Bounds.ValueOrder.{value_total, same_from_equal}

-- any two elements are the same
abbrev AllSame : List (Option ScalarValue) → Type 0
AllSame xs = (x y : Option ScalarValue) → Contains xs x → Contains xs y → x ≡ y

first_is : (x : Option ScalarValue) (xs : List (Option ScalarValue)) → is_constant (x ∷ xs) ≡ true → (y : Option ScalarValue) (k : ℕ) → Contains (x ∷ xs) y → x ≡ y
first_is x xs h y n (zero, l, e) = e
first_is x xs h y n (suc k, l, e) =
    (optional_value_eq_is_exact x y).0 (All-contains (λ z. optional_value_eq x z ≡ true) xs y (AllPass-from_list_all (λ z. optional_value_eq x z) xs h) (k, omega arith, e))

all_from_same : (x : Option ScalarValue) (xs : List (Option ScalarValue)) → AllSame (x ∷ xs) → is_constant (x ∷ xs) ≡ true
all_from_same x xs h =
    list_all-from_AllPass (λ z. optional_value_eq x z) xs
    (All-weaker (Contains xs) (λ z. optional_value_eq x z ≡ true) (λ z i. (optional_value_eq_is_exact x z).1 (h x z (zero, omega arith, refl) (Contains-append_right (x ∷ []) xs z i))) xs (All-contains_itself xs))

pub constant_means : (xs : List (Option ScalarValue)) → Decides (is_constant xs) ((x y : Option ScalarValue) → Contains xs x → Contains xs y → x ≡ y)
constant_means [] = (λ h x y i j. absurd (omega (arith, i.1)), λ h. refl)
constant_means (x ∷ xs) = (λ h y z i j. sym (first_is x xs h y 0 i) ∙ first_is x xs h z 0 j, all_from_same x xs)

constant_left : (xs ys : List (Option ScalarValue)) → is_constant (xs ++ ys) ≡ true → is_constant xs ≡ true
constant_left xs ys h = (constant_means xs).1 (λ x y i j. (constant_means (xs ++ ys)).0 h x y (Contains-append_left xs ys x i) (Contains-append_left xs ys y j))

constant_right : (xs ys : List (Option ScalarValue)) → is_constant (xs ++ ys) ≡ true → is_constant ys ≡ true
constant_right xs ys h = (constant_means ys).1 (λ x y i j. (constant_means (xs ++ ys)).0 h x y (Contains-append_right xs ys x i) (Contains-append_right xs ys y j))

-- ---- what an exact truth says

truth_is : (b c : Bool) → value.Bool b ≡ value.Bool c → c ≡ b
truth_is b c e = cc

when_false : (p : Precision ScalarValue) (b : Bool) → is_exact_truth false p ≡ true → ClaimsTruth p b → b ≡ false
when_false (Exact (value.Bool false)) b h k = truth_is false b k
when_false p b h k = absurd (true≢false (sym h))

pub when_true : (p : Precision ScalarValue) (b : Bool) → is_exact_truth true p ≡ true → ClaimsTruth p b → b ≡ true
when_true (Exact (value.Bool true)) b h k = truth_is true b k
when_true p b h k = absurd (true≢false (sym h))

-- ---- of both columns

pub inner : (x y : ScalarValue) → Some x ≡ Some y → x ≡ y
inner x y e = cc

tied_from_same : (x y : ScalarValue) → Some x ≡ Some y → value_cmp x y ≡ Equal
tied_from_same x y e = ap (value_cmp x) (sym (inner x y e)) ∙ tied_itself value_total x

module _ (xs ys : List (Option ScalarValue)) where
  across : (x y : ScalarValue) → is_constant xs ≡ true → is_constant ys ≡ true → Contains xs (Some x) → Contains ys (Some y) → x ≡ y → (u : Option ScalarValue) → Contains (xs ++ ys) u → u ≡ Some x
  across x y h k i j e u m =
      ⊎_elim (λ n. (constant_means xs).0 h u (Some x) n i) (λ n. (constant_means ys).0 k u (Some y) n j ∙ ap Some (sym e)) (Contains-append_cases xs ys u m)

  constant_of_minima : (x y : ScalarValue) → is_constant xs ≡ true → is_constant ys ≡ true → Contains xs (Some x) → Contains ys (Some y) → is_eq (value_cmp x y) ≡ is_constant (xs ++ ys)
  constant_of_minima x y h k i j =
      same_from_decides (is_eq (value_cmp x y)) (is_constant (xs ++ ys)) (
        λ e u v m n. let s = same_from_equal x y ((Equal-is (value_cmp x y)).0 e) in across x y h k i j s u m ∙ sym (across x y h k i j s v n),
        λ s. ap is_eq (tied_from_same x y (s (Some x) (Some y) (Contains-append_left xs ys (Some x) i) (Contains-append_right xs ys (Some y) j))),
      )
      (constant_means (xs ++ ys))

  one_false : (b c : Bool) → (b || c) ≡ true → (b ≡ true → is_constant xs ≡ false) → (c ≡ true → is_constant ys ≡ false) → is_constant (xs ++ ys) ≡ false
  one_false b c h f g =
      false_from_ne_true (is_constant (xs ++ ys))
      (λ e. ⊎_elim (λ k. true≢false (sym (constant_left xs ys e) ∙ f k)) (λ k. true≢false (sym (constant_right xs ys e) ∙ g k)) (or_cases b c h))

  abbrev TellsConstant : Option (Precision ScalarValue) → Type 0
  TellsConstant o = MatchOption o ⊤ (λ r. ClaimsTruth r (is_constant (xs ++ ys)))

  of_minima : (m n : Precision ScalarValue) → is_constant xs ≡ true → is_constant ys ≡ true → ClaimsMin m xs → ClaimsMin n ys → TellsConstant (same_minima m n)
  of_minima (Exact x) (Exact y) h k p q = ap value.Bool (constant_of_minima x y h k p.0 q.0)
  of_minima (Exact x) (Inexact y) h k p q = tt
  of_minima (Exact x) Absent h k p q = tt
  of_minima (Inexact x) n h k p q = tt
  of_minima Absent n h k p q = tt

  second_step : (c d m n : Precision ScalarValue) → ClaimsTruth c (is_constant xs) → ClaimsTruth d (is_constant ys) → ClaimsMin m xs → ClaimsMin n ys
      → (b : Bool) → (is_exact_truth true c && is_exact_truth true d) ≡ b → TellsConstant (cond b (same_minima m n) None)
  second_step c d m n p q u v true e =
      let k = and_parts (is_exact_truth true c) (is_exact_truth true d) e in
      of_minima m n (when_true c (is_constant xs) k.0 p) (when_true d (is_constant ys) k.1 q) u v
  second_step c d m n p q u v false e = tt

  first_step : (c d m n : Precision ScalarValue) → ClaimsTruth c (is_constant xs) → ClaimsTruth d (is_constant ys) → ClaimsMin m xs → ClaimsMin n ys
      → (b : Bool) → (is_exact_truth false c || is_exact_truth false d) ≡ b
      → TellsConstant (cond b (Some (truth false)) (cond (is_exact_truth true c && is_exact_truth true d) (same_minima m n) None))
  first_step c d m n p q u v true e =
      ap value.Bool (sym (one_false (is_exact_truth false c) (is_exact_truth false d) e (λ k. when_false c (is_constant xs) k p) (λ k. when_false d (is_constant ys) k q)))
  first_step c d m n p q u v false e = second_step c d m n p q u v (is_exact_truth true c && is_exact_truth true d) refl

  -- the merged truth is true of both columns together
  pub constant_of_merged : (c d m n : Precision ScalarValue) → ClaimsTruth c (is_constant xs) → ClaimsTruth d (is_constant ys) → ClaimsMin m xs → ClaimsMin n ys
      → MatchOption (constant_merged c d m n) ⊤ (λ r. ClaimsTruth r (is_constant (xs ++ ys)))
  constant_of_merged c d m n p q u v = first_step c d m n p q u v (is_exact_truth false c || is_exact_truth false d) refl

pub constant_of_reordered : (xs ys : List (Option ScalarValue)) → IsPermutation xs ys → is_constant ys ≡ is_constant xs
constant_of_reordered xs ys m =
    same_from_decides (is_constant ys) (is_constant xs)
    (constant_means ys) (
      λ e x y i j. (constant_means xs).0 e x y (Contains-permutation ys xs x (IsPermutation-sym xs ys m) i) (Contains-permutation ys xs y (IsPermutation-sym xs ys m) j),
      λ s. (constant_means xs).1 (λ x y i j. s x y (Contains-permutation xs ys x m i) (Contains-permutation xs ys y m j)),
    )

pub truth_of_inexact : (p : Precision ScalarValue) (b : Bool) → ClaimsTruth (inexact_of p) b
truth_of_inexact (Exact v) b = tt
truth_of_inexact (Inexact v) b = tt
truth_of_inexact Absent b = tt
