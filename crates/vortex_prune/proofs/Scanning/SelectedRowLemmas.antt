-- Selected rows are gone through and compared one by one.
use Rattle.std.proofs.Common.{◌≡◌, ◌<◌, ◌≤◌, ◌+◌, ◌∷◌, ◌&&◌, ◌∙◌, ℕ, zero, suc, Bool, true, false, not, List, [], None, Some, ap, ap₂, arith, drop, length, refl, slice_get, sym}
use Rattle.std.proofs.Math.Seq.{drop-cons}
use Rattle.std.proofs.lemmas.List.{drop_all}
use Rattle.std.proofs.lemmas.Option.{get_or_from_slice_get, none-some, slice_get_within}
use Rattle.std.specs.Option.{option_eq}
use lib.Pointwise.{pointwise}

-- ---- rows gone through one by one

-- the first of those that are left, and the others
pub left_next : {X : Type 0} (xs : List X) (n : ℕ) (x : X) → Some x ≡ slice_get xs n → drop n xs ≡ x ∷ drop (n + 1) xs
left_next xs n x is =
    let next : suc n ≡ n + 1 = omega arith in
    drop-cons xs n x (slice_get_within xs n x (sym is))
    ∙ ap (λ y. y ∷ drop (suc n) xs) (get_or_from_slice_get xs n x x (sym is))
    ∙ ap (λ k. x ∷ drop k xs) next

-- none is left past the end
pub none_left : {X : Type 0} (xs : List X) (n : ℕ) → None ≡ slice_get xs n → drop n xs ≡ []
none_left [] zero is = refl
none_left [] (suc n) is = refl
none_left (x ∷ xs) zero is = absurd (none-some x is)
none_left (x ∷ xs) (suc n) is = none_left xs n is

-- ---- rows compared one by one

is_false : (b : Bool) → true ≡ not b → b ≡ false
is_false true is = is
is_false false is = refl

is_true : (b : Bool) → false ≡ not b → b ≡ true
is_true true is = refl
is_true false is = is

module _ {X : Type 0} (same : X → X → Bool) where
  -- those from a place on are the same exactly where that one is and those behind it are
  same_from : (xs ys : List X) (i : ℕ) → i < length xs → length xs ≡ length ys
      → pointwise same (drop i xs) (drop i ys) ≡ (option_eq same (slice_get xs i) (slice_get ys i) && pointwise same (drop (suc i) xs) (drop (suc i) ys))
  same_from [] ys i within long = absurd (omega (arith, within))
  same_from (x ∷ xs) [] i within long = absurd (omega (arith, long))
  same_from (x ∷ xs) (y ∷ ys) zero within long = refl
  same_from (x ∷ xs) (y ∷ ys) (suc i) within long = same_from xs ys i (omega (arith, within)) (omega (arith, long))

  -- none is left of lists that are as long
  pub same_at_end : (xs ys : List X) (i : ℕ) → length xs ≤ i → length xs ≡ length ys → pointwise same (drop i xs) (drop i ys) ≡ true
  same_at_end xs ys i past long = ap₂ (pointwise same) (drop_all i xs past) (drop_all i ys (omega (arith, past, long)))

  module _ (xs ys : List X) (i : ℕ) (within : i < length xs) (long : length xs ≡ length ys) (whole : Bool) (so_far : whole ≡ pointwise same (drop i xs) (drop i ys)) where
    -- one that isn't tells that not all are
    pub differ_at : true ≡ not (option_eq same (slice_get xs i) (slice_get ys i)) → false ≡ whole
    differ_at differs =
        let rest = pointwise same (drop (suc i) xs) (drop (suc i) ys) in
        sym (so_far ∙ same_from xs ys i within long ∙ ap (λ b. b && rest) (is_false _ differs))

    -- past one that is the others tell it
    pub same_past : false ≡ not (option_eq same (slice_get xs i) (slice_get ys i)) → whole ≡ pointwise same (drop (i + 1) xs) (drop (i + 1) ys)
    same_past is =
        let rest = pointwise same (drop (suc i) xs) (drop (suc i) ys) in
        let next : suc i ≡ i + 1 = omega arith in
        so_far ∙ same_from xs ys i within long ∙ ap (λ b. b && rest) (is_true _ is) ∙ ap (λ k. pointwise same (drop k xs) (drop k ys)) next
