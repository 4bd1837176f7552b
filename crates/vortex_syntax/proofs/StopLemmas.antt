-- The first byte that passes a test, looked for sixteen bytes at a time by the mask of those that do.
use Rattle.std.proofs.Common.{◌≡◌, ◌<◌, ◌≤◌, ◌+◌, ◌-◌, ◌*◌, ◌%◌, ◌^◌, ℕ, suc, Bool, true, false, not, cond, eqb, ltb, nat_lt, List, [], ◌∷◌, map, Some, length, take, drop, position, refl, sym, ap, ap₂, ◌∙◌, inl, inr, arith, w8, Fits, take-append-drop}
use Rattle.std.proofs.lemmas.Bool.{agree_below, agree_below_at, cases_eq, eq-eqb, ne_eqb}
use Rattle.std.proofs.lemmas.Bool.Decides.{nat_tests}
use Rattle.std.proofs.lemmas.List.{length-drop, length-map, length-take-le, drop-drop, take_rest}
use Rattle.std.proofs.lemmas.List.Folds.{prefix_len-append}
use Rattle.std.proofs.lemmas.List.Sums.{prefix_len-le-length}
use Rattle.std.proofs.lemmas.Simd.{leading_from_mask_l, map-map, mask_l-mod, trailing_mask_l}
use Rattle.std.specs.List.{position_or_len}
use lib.Count.{count_trailing_zeros}
use lib.Lanes.{Each1, mask_l, top}

-- what a lane holds after `simd_lt`
abbrev pub below : ℕ → ℕ → ℕ
below a b = cond (ltb a b) 255 0

-- and after `simd_eq`
abbrev pub equal : ℕ → ℕ → ℕ
equal a b = cond (eqb a b) 255 0

-- two tests that agree on the 256 bytes give the same of a list of bytes
map_same : (f g : ℕ → Bool) (bytes : List ℕ) → agree_below f g 256 ≡ true → Each1 (Fits w8) bytes → map f bytes ≡ map g bytes
map_same f g [] agree fits = refl
map_same f g (b ∷ bytes) agree fits = ap₂ (λ x l. x ∷ l) (agree_below_at f g 256 b agree fits.0.fits) (map_same f g bytes agree fits.1)

-- a bitmask is that of a test, if the lanes' highest bits agree with it on the 256 bytes
pub mask_of : (lane : ℕ → ℕ) (p : ℕ → Bool) (bytes lanes : List ℕ) → length bytes ≤ 64 → Each1 (Fits w8) bytes → lanes ≡ map lane bytes → agree_below (λ b. top 7 (lane b)) p 256 ≡ true
    → mask_l (map (top 7) lanes) % 2 ^ 64 ≡ mask_l (map p bytes)
mask_of lane p bytes lanes few fits are agree =
    ap (λ l. mask_l l % 2 ^ 64) (ap (map (top 7)) are ∙ map-map (top 7) lane bytes ∙ map_same (λ b. top 7 (lane b)) p bytes agree fits) ∙ mask_l-mod (map p bytes) 64 (omega (arith, length-map bytes p))

-- where no bit is set, the place is behind the sixteen
behind_sixteen : (p : ℕ → Bool) (xs : List ℕ) → 16 ≤ length xs → mask_l (map p (take 16 xs)) ≡ 0 → position_or_len p xs ≡ 16 + position_or_len p (drop 16 xs)
behind_sixteen p xs long none =
    let front = take 16 xs in
    let rest = drop 16 xs in
    let whole : position_or_len p front ≡ length front = leading_from_mask_l p front none in
    ap (position_or_len p) (sym (take-append-drop 16 xs)) ∙ prefix_len-append (λ x. not (p x)) front rest
    ∙ ap (λ b. cond b (length front + position_or_len p rest) (position_or_len p front)) (eq-eqb _ _ whole)
    ∙ ap (λ n. n + position_or_len p rest) (length-take-le 16 xs long)

-- the step of the next: where none of the elements passes, the first doesn't, and the others don't
none_set : (b : Bool) (n l m : ℕ) → n ≤ l → cond (not b) (1 + n) 0 ≡ suc l → (n ≡ l → m ≡ 0) → cond b 1 0 + 2 * m ≡ 0
none_set true n l m le e rest = absurd (omega arith)
none_set false n l m le e rest = omega (arith, rest (omega arith))

-- where no element passes, no bit is set
empty_mask : (p : ℕ → Bool) (xs : List ℕ) → position_or_len p xs ≡ length xs → mask_l (map p xs) ≡ 0
empty_mask p [] none = refl
empty_mask p (x ∷ xs) none = none_set (p x) _ (length xs) _ (prefix_len-le-length (λ y. not (p y)) xs) none (empty_mask p xs)

-- where a bit is set, the lowest is the place
within_sixteen : (p : ℕ → Bool) (xs : List ℕ) → 16 ≤ length xs → 0 < mask_l (map p (take 16 xs)) → (position_or_len p xs < 16) × (position_or_len p xs ≡ count_trailing_zeros 64 (mask_l (map p (take 16 xs))))
within_sixteen p xs long some =
    let front = take 16 xs in
    let rest = drop 16 xs in
    let all : length front ≡ 16 = length-take-le 16 xs long in
    let found : position_or_len p front < length front = elim (cases_eq (position_or_len p front) (length front)) [
      | inl whole ↦ absurd (omega (arith, some, empty_mask p front whole))
      | inr other ↦ omega (arith, other, prefix_len-le-length (λ x. not (p x)) front)
    ] in
    let same : position_or_len p xs ≡ position_or_len p front =
    ap (position_or_len p) (sym (take-append-drop 16 xs)) ∙ prefix_len-append (λ x. not (p x)) front rest
    ∙ ap (λ b. cond b (length front + position_or_len p rest) (position_or_len p front)) (ne_eqb _ _ (λ (whole : position_or_len p front ≡ length front). omega (arith, found))) in
    (omega (arith, same, found, all), same ∙ sym (trailing_mask_l p 64 front (omega (arith, all)) some))

-- the place as `position` gives it
position_at : (p : ℕ → Bool) (xs : List ℕ) (i : ℕ) → position_or_len p xs ≡ i → i < length xs → position p xs ≡ Some i
position_at p xs i at inside =
    let found : nat_lt (position_or_len p xs) (length xs) ≡ true = grind (arith, nat_tests, at, inside) in
    rw found (ap Some at)

-- the next sixteen bytes of a text behind n that are passed, and their mask
module _ (p : ℕ → Bool) (text : List ℕ) (n mask : ℕ) (room : n + 16 ≤ length text) (passed : position_or_len p text ≡ n + position_or_len p (drop n text)) (is : mask ≡ mask_l (map p (take 16 (take (length text - n) (drop n text))))) where
  -- it is that of what is left of the text
  of_rest : mask ≡ mask_l (map p (take 16 (drop n text)))
  of_rest = is ∙ ap (λ rest. mask_l (map p (take 16 rest))) (take_rest text n)

  -- sixteen more bytes are passed
  pub passed_sixteen : mask ≡ 0 → position_or_len p text ≡ n + 16 + position_or_len p (drop (n + 16) text)
  passed_sixteen none = omega (arith, passed, behind_sixteen p (drop n text) (omega (arith, length-drop n text)) (sym of_rest ∙ none), ap (position_or_len p) (drop-drop 16 n text))

  -- the place is in the next sixteen
  pub found_in_sixteen : 0 < mask → position p text ≡ Some (n + count_trailing_zeros 64 mask)
  found_in_sixteen some =
      let (within, lowest) = within_sixteen p (drop n text) (omega (arith, length-drop n text)) (omega (arith, some, of_rest)) in
      let place : position_or_len p text ≡ n + count_trailing_zeros 64 mask = omega (arith, passed, lowest ∙ ap (count_trailing_zeros 64) (sym of_rest)) in
      position_at p text _ place (omega (arith, room, passed, within, place))
