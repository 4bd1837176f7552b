-- What is read up to a place that is refused.
use Rattle.std.proofs.Common.{◌≡◌, ◌<◌, ◌+◌, ◌++◌, ℕ, zero, suc, add-one, List, [], ◌∷◌, Result, Ok, Err, length, refl, sym, ap, ◌∙◌, arith, inl, inr}
use Rattle.std.proofs.lemmas.List.{length_push}
use Rattle.std.proofs.Math.Nat.{eq-or-lt_of_le}
use Rattle.vortex_capi.specs.declared.fault.Refusal.{Refusal}
use Rattle.vortex_capi.specs.declared.status.Status.{Status}
use Rattle.vortex_capi.specs.Refusals.{all_found, all_read, followed, found_more, stepped}

-- the first place that is refused decides of all
pub stops : {X : Type 0} (at : Status → ℕ → Refusal) (f : ℕ → Result X Status) (i n : ℕ) (xs : List X) (s : Status) → all_read at f i ≡ Ok xs → f i ≡ Err s → i < n → all_read at f n ≡ Err (at s i)
stops at f i zero xs s before stopped h = absurd (omega (arith, h))
stops at f i (suc n) xs s before stopped h = elim (eq-or-lt_of_le {n = i} {m = n} (omega (arith, h))) [
  | inl same ↦ rw (sym same) (rw (before, stopped) refl)
  | inr less ↦ rw (stops at f i n xs s before stopped less) refl
]

-- one more item behind those that were read
pub reads_on : {X : Type 0} (at : Status → ℕ → Refusal) (f : ℕ → Result X Status) (i : ℕ) (xs : List X) (x : X) → all_read at f i ≡ Ok xs → f i ≡ Ok x → all_read at f (i + 1) ≡ Ok (xs ++ x ∷ [])
reads_on at f i xs x before read = rw (add-one, before, read) refl

-- the first step that is refused decides of all
pub steps_stop : {X : Type 0} (f : ℕ → X → Result X Refusal) (x : X) (i n : ℕ) (y : X) (r : Refusal) → stepped f x i ≡ Ok y → f i y ≡ Err r → i < n → stepped f x n ≡ Err r
steps_stop f x i zero y r before stopped h = absurd (omega (arith, h))
steps_stop f x i (suc n) y r before stopped h = elim (eq-or-lt_of_le {n = i} {m = n} (omega (arith, h))) [
  | inl same ↦ rw (sym same) (rw (before, stopped) refl)
  | inr less ↦ rw (steps_stop f x i n y r before stopped less) refl
]

-- the first item that is refused decides of all
pub found_stops : {X : Type 0} (f : ℕ → Result X Refusal) (i n : ℕ) (xs : List X) (r : Refusal) → all_found f i ≡ Ok xs → f i ≡ Err r → i < n → all_found f n ≡ Err r
found_stops f i n xs r before stopped h = steps_stop (found_more f) [] i n xs r before (rw stopped refl) h

-- one more item
pub found_goes_on : {X : Type 0} (f : ℕ → Result X Refusal) (i : ℕ) (xs : List X) (x : X) → all_found f i ≡ Ok xs → f i ≡ Ok x → all_found f (i + 1) ≡ Ok (xs ++ x ∷ [])
found_goes_on f i xs x before read = rw (add-one, before, read) refl

longer : {X : Type 0} (f : ℕ → Result X Refusal) (n : ℕ) (xs : List X) (before : Result (List X) Refusal) (next : Result X Refusal) → followed before (λ ys. followed next (λ y. Ok (ys ++ y ∷ []))) ≡ Ok xs
    → ((ys : List X) → before ≡ Ok ys → length ys ≡ n) → length xs ≡ suc n
longer f n xs (Err r) next h long = absurd cc
longer f n xs (Ok ys) (Err r) h long = absurd cc
longer f n xs (Ok ys) (Ok y) h long = let same : ys ++ y ∷ [] ≡ xs = cc in ap length (sym same) ∙ length_push ys y ∙ ap (λ k. k + 1) (long ys refl) ∙ add-one n

-- there is an item for each place
pub found_long : {X : Type 0} (f : ℕ → Result X Refusal) (n : ℕ) (xs : List X) → all_found f n ≡ Ok xs → length xs ≡ n
found_long f zero xs h = let same : [] ≡ xs = cc in ap length (sym same)
found_long f (suc n) xs h = longer f n xs (all_found f n) (f n) h (λ ys e. found_long f n ys e)

-- what was read, and what followed it
pub record Followed {X Y : Type 0} (read : Result X Refusal) (f : X → Result Y Refusal) (y : Y) : Type 0 where
  pub at : X
  pub made : read ≡ Ok at
  pub then : f at ≡ Ok y

pub followed_from : {X Y : Type 0} (read : Result X Refusal) (f : X → Result Y Refusal) (y : Y) → followed read f ≡ Ok y → Followed read f y
followed_from (Ok x) f y h = record { at = x; made = refl; then = h }
followed_from (Err r) f y h = cc

-- what is read and then followed
pub followed_read : {X Y : Type 0} (read : Result X Refusal) (f : X → Result Y Refusal) (x : X) → read ≡ Ok x → followed read f ≡ f x
followed_read read f x h = rw h refl

pub followed_refused : {X Y : Type 0} (read : Result X Refusal) (f : X → Result Y Refusal) (r : Refusal) → read ≡ Err r → followed read f ≡ Err r
followed_refused read f r h = rw h refl
