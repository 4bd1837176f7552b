-- What each of a list is, as a loop reads it.
use Rattle.std.proofs.Common.{◌≡◌, ℕ, ◌+◌, ◌≤◌, ◌<◌, List, [], ◌∷◌, ◌++◌, length, Result, Ok, Err, refl, sym, ap, ◌∙◌, add-one, drop, drop-cons, get_or, map}
use Rattle.std.proofs.lemmas.List.{append-nil, drop_all}
use Rattle.vortex_parquet.specs.declared.fault.Fault.{Fault}
use Rattle.vortex_parquet.specs.declared.fault.ReadError.{ReadError}
use Rattle.vortex_parquet.specs.declared.fault.ReadError.TheVariants as errors
use Rattle.vortex_parquet.specs.Reading.{◌>>=◌, Fails}
use Rattle.vortex_parquet.specs.Stats.{all_of}
use Rattle.vortex_parquet.proofs.Loops.{regroup_all, with_all}

drop_step : {X : Type 0} (xs : List X) (i : ℕ) (d : X) → i < length xs → drop i xs ≡ get_or xs i d ∷ drop (i + 1) xs
drop_step {X} xs i d lt = drop-cons xs i d lt ∙ ap (λ (n : ℕ). get_or xs i d ∷ drop n xs) (sym (add-one i))

pub all_goes : {A X : Type 0} (one : X → Result A Fault) (xs : List X) (front : List A) (i : ℕ) (d : X) (x : A) (total : Result (List A) Fault) → i < length xs
    → one (get_or xs i d) ≡ Ok x
    → with_all front (all_of one (drop i xs)) ≡ total
    → with_all (front ++ x ∷ []) (all_of one (drop (i + 1) xs)) ≡ total
unfolding all_of
all_goes one xs front i d x total lt h so_far =
    let first : all_of one (drop i xs) ≡ (all_of one (drop (i + 1) xs) >>= λ ys. Ok (x ∷ ys)) = ap (all_of one) (drop_step xs i d lt) ∙ rw h refl in
    sym (regroup_all front x (all_of one (drop (i + 1) xs))) ∙ ap (with_all front) (sym first) ∙ so_far

pub all_fails : {A X : Type 0} (e : ReadError) (one : X → Result A Fault) (xs : List X) (front : List A) (i : ℕ) (default : X) (total : Result (List A) Fault) → i < length xs
    → Fails e (one (get_or xs i default))
    → with_all front (all_of one (drop i xs)) ≡ total → Fails e total
unfolding all_of
all_fails errors.Memory one xs front i default total lt h so_far = tt
all_fails (errors.Fault d) one xs front i default total lt h so_far =
    let first : all_of one (drop i xs) ≡ Err d = ap (all_of one) (drop_step xs i default lt) ∙ rw h refl in
    sym so_far ∙ ap (with_all front) first

pub all_done : {A X : Type 0} (one : X → Result A Fault) (xs : List X) (front : List A) (i : ℕ) (total : Result (List A) Fault) → length xs ≤ i
    → with_all front (all_of one (drop i xs)) ≡ total → total ≡ Ok front
unfolding all_of
all_done {A} one xs front i total le so_far =
    let first : all_of one (drop i xs) ≡ Ok [] = ap (all_of one) (drop_all i xs le) in
    sym so_far ∙ ap (with_all front) first ∙ ap (λ (fs : List A). Ok fs) (append-nil front)

-- what each of the values of a list is
pub all_of-map : {A B X : Type 0} (one : B → Result A Fault) (f : X → B) (xs : List X) → all_of (λ (x : X). one (f x)) xs ≡ all_of one (map f xs)
unfolding all_of
all_of-map one f [] = refl
all_of-map {A} one f (x ∷ xs) = ap (λ (r : Result (List A) Fault). one (f x) >>= λ y. r >>= λ ys. Ok (y ∷ ys)) (all_of-map one f xs)
