-- Two neighbours of a list that become one.
use Rattle.std.proofs.Common.{◌≡◌, ◌+◌, ◌≤◌, ◌<◌, ℕ, zero, suc, arith, List, [], ◌∷◌, ◌++◌, Option, None, Some, option_and_then, length, take, drop, refl, ap, ◌∙◌, subst}
use Rattle.std.specs.List.{slice_get}
use Rattle.std.proofs.lemmas.List.{take_at}
use Rattle.std.proofs.lemmas.Option.{slice_get_past}

-- the list with the element at a place and the one behind it made one
abbrev pub joins_at : {X : Type 0} → (X → X → X) → ℕ → List X → Option (List X)
joins_at j i xs = option_and_then (λ l. option_and_then (λ r. Some (take i xs ++ j l r ∷ drop (i + 2) xs)) (slice_get xs (i + 1))) (slice_get xs i)

pub at_seam : {X : Type 0} → (f : List X) (x : X) (ys : List X) → slice_get (f ++ x ∷ ys) (length f) ≡ Some x
at_seam [] x ys = refl
at_seam (y ∷ f) x ys = at_seam f x ys

after_seam : {X : Type 0} → (f : List X) (x y : X) (ys : List X) → slice_get (f ++ x ∷ y ∷ ys) (suc (length f)) ≡ Some y
after_seam [] x y ys = refl
after_seam (z ∷ f) x y ys = after_seam f x y ys

behind_two : {X : Type 0} → (f : List X) (x y : X) (ys : List X) → drop (suc (suc (length f))) (f ++ x ∷ y ∷ ys) ≡ ys
behind_two [] x y ys = refl
behind_two (z ∷ f) x y ys = behind_two f x y ys

module _ {X : Type 0} (j : X → X → X) where
  with_both : (i : ℕ) (xs : List X) (left right : X) → slice_get xs i ≡ Some left → slice_get xs (i + 1) ≡ Some right → joins_at j i xs ≡ Some (take i xs ++ j left right ∷ drop (i + 2) xs)
  with_both i xs left right first second =
      ap (λ o. option_and_then (λ (l : X). option_and_then (λ (r : X). Some (take i xs ++ j l r ∷ drop (i + 2) xs)) (slice_get xs (i + 1))) o) first
      ∙ ap (λ o. option_and_then (λ (r : X). Some (take i xs ++ j left r ∷ drop (i + 2) xs)) o) second

  -- the two at a seam
  pub joined_at_seam : (f : List X) (left right : X) (rest : List X) (i : ℕ) → length f ≡ i → joins_at j i (f ++ left ∷ right ∷ rest) ≡ Some (f ++ j left right ∷ rest)
  joined_at_seam f left right rest i len =
      let xs = f ++ left ∷ right ∷ rest in
      let one : length f + 1 ≡ suc (length f) = omega arith in
      let two : length f + 2 ≡ suc (suc (length f)) = omega arith in
      subst (λ (n : ℕ). joins_at j n xs ≡ Some (f ++ j left right ∷ rest)) len
      (with_both (length f) xs left right (at_seam f left (right ∷ rest)) (ap (slice_get xs) one ∙ after_seam f left right rest)
      ∙ ap (λ l. Some (l ++ j left right ∷ drop (length f + 2) xs)) (take_at f (left ∷ right ∷ rest) (length f) refl)
      ∙ ap (λ l. Some (f ++ j left right ∷ l)) (ap (λ n. drop n xs) two ∙ behind_two f left right rest))

  none_second : (i : ℕ) (xs : List X) (o : Option X) → slice_get xs (i + 1) ≡ None → option_and_then (λ (l : X). option_and_then (λ (r : X). Some (take i xs ++ j l r ∷ drop (i + 2) xs)) (slice_get xs (i + 1))) o ≡ None
  none_second i xs None none = refl
  none_second i xs (Some left) none = ap (λ o. option_and_then (λ (r : X). Some (take i xs ++ j left r ∷ drop (i + 2) xs)) o) none

  -- there is no element behind
  pub nothing_to_join : (i : ℕ) (xs : List X) → length xs ≤ i + 1 → joins_at j i xs ≡ None
  nothing_to_join i xs past = none_second i xs (slice_get xs i) (slice_get_past xs (i + 1) past)

-- where two stand at a place and behind it, these are what stands before them and behind
pub two_at : {X : Type 0} (xs : List X) (i : ℕ) → i + 1 < length xs → (f : List X) × (x : X) × (y : X) × (rest : List X) × (xs ≡ f ++ x ∷ y ∷ rest) × (length f ≡ i)
two_at [] i there = absurd (omega arith)
two_at (x ∷ []) i there = absurd (omega arith)
two_at (x ∷ y ∷ rest) zero there = ([], x, y, rest, refl, refl)
two_at (z ∷ y ∷ xs) (suc i) there =
    let (f, l, r, rest, is, long) = two_at (y ∷ xs) i (omega (arith, there)) in
    (z ∷ f, l, r, rest, ap (λ ys. z ∷ ys) is, ap suc long)
