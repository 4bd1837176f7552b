-- What stands at a place of the columns that are chosen.
use Rattle.std.proofs.Common.{◌≡◌, ◌<◌, ℕ, zero, suc, true, List, [], ◌∷◌, Some, arith, length, refl, subst, sym, ap, ◌∙◌}
use Rattle.std.specs.Prelude.{slice_get}
use Rattle.std.specs.List.{cons_option}
use Rattle.std.proofs.lemmas.Bool.{ltb-true}
use Rattle.vortex_base.specs.Data.Exact.{both_true}
use Rattle.vortex_zone_map.specs.Choosing.{are_places, chosen}

-- a place is that of an element
pub place_there : {X : Type 0} (xs : List X) (places : List ℕ) (i p : ℕ) → are_places (length xs) places ≡ true → slice_get places i ≡ Some p → p < length xs
place_there xs [] i p all there = cc
place_there xs (q ∷ qs) zero p all there = (let same : q ≡ p = cc in subst (λ n. n < length xs) same (ltb-true q (length xs) (both_true _ _ all).0))
place_there xs (q ∷ qs) (suc i) p all there = place_there xs qs i p (both_true _ _ all).1 there

-- one more that is chosen
chosen_first : {X : Type 0} (xs : List X) (p : ℕ) (ps : List ℕ) (x : X) → slice_get xs p ≡ Some x → chosen (p ∷ ps) xs ≡ x ∷ chosen ps xs
chosen_first xs p ps x there = ap (λ o. cons_option o (chosen ps xs)) there

-- an element stands at each place
element : {X : Type 0} (xs : List X) (i : ℕ) → i < length xs → (x : X) × (slice_get xs i ≡ Some x)
element [] i h = absurd (omega (arith, h))
element (x ∷ xs) zero h = (x, refl)
element (x ∷ xs) (suc i) h = element xs i (omega (arith, h))

-- as many are chosen as there are places
pub chosen_long : {X : Type 0} (xs : List X) (places : List ℕ) → are_places (length xs) places ≡ true → length (chosen places xs) ≡ length places
chosen_long xs [] all = refl
chosen_long xs (p ∷ ps) all =
    let there = element xs p (ltb-true p (length xs) (both_true _ _ all).0) in
    ap length (chosen_first xs p ps there.0 there.1) ∙ ap suc (chosen_long xs ps (both_true _ _ all).1)

-- each is the one that stands at its place
pub chosen_at : {X : Type 0} (xs : List X) (places : List ℕ) (i p : ℕ) → are_places (length xs) places ≡ true → slice_get places i ≡ Some p → slice_get (chosen places xs) i ≡ slice_get xs p
chosen_at xs [] i p all there = cc
chosen_at xs (q ∷ qs) zero p all there =
    let same : q ≡ p = cc in
    let first = element xs q (ltb-true q (length xs) (both_true _ _ all).0) in
    ap (λ l. slice_get l zero) (chosen_first xs q qs first.0 first.1) ∙ sym first.1 ∙ ap (slice_get xs) same
chosen_at xs (q ∷ qs) (suc i) p all there =
    let first = element xs q (ltb-true q (length xs) (both_true _ _ all).0) in
    ap (λ l. slice_get l (suc i)) (chosen_first xs q qs first.0 first.1) ∙ chosen_at xs qs i p (both_true _ _ all).1 there
