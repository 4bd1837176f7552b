-- What a call answers that reads what a caller handed in.
use Rattle.std.specs.Prelude.{◌≡◌, ◌≢◌, ℕ, zero, suc, List, [], ◌∷◌, ◌++◌, Result, Ok, Err}
use Rattle.vortex_capi.specs.declared.fault.Refusal.{Refusal}
use Rattle.vortex_capi.specs.declared.status.Status.{Status}
use Rattle.vortex_capi.specs.declared.status.Status.TheVariants.{NoMemory}

-- what a call returned is what is to be read; memory may be refused
abbrev pub Gives : {X : Type 0} → Result X Status → Result X Status → Type 0
Gives (Ok x) read = read ≡ Ok x
Gives (Err s) read = s ≢ NoMemory → read ≡ Err s

-- the same of a call that tells a refusal's place, seen by view
abbrev pub Answers : {X Y : Type 0} → (X → Y) → Result X Refusal → Result Y Refusal → Type 0
Answers view (Ok x) read = read ≡ Ok (view x)
Answers view (Err r) read = r.status ≢ NoMemory → read ≡ Err r

-- one more item behind those that were read, or the first refusal, with the place that `at` makes of its number
abbrev pub one_more : {X : Type 0} → (Status → ℕ → Refusal) → ℕ → Result (List X) Refusal → Result X Status → Result (List X) Refusal
one_more at n (Err r) x = Err r
one_more at n (Ok xs) (Err s) = Err (at s n)
one_more at n (Ok xs) (Ok x) = Ok (xs ++ x ∷ [])

-- the items of the first n places in order, or the first of them that is refused
abbrev pub all_read : {X : Type 0} → (Status → ℕ → Refusal) → (ℕ → Result X Status) → ℕ → Result (List X) Refusal
all_read at f zero = Ok []
all_read at f (suc n) = one_more at n (all_read at f n) (f n)

-- what follows of what was read
abbrev pub followed : {X Y : Type 0} → Result X Refusal → (X → Result Y Refusal) → Result Y Refusal
followed (Err r) f = Err r
followed (Ok x) f = f x

-- what the first n steps make of x in turn, or the first of them that is refused
abbrev pub stepped : {X : Type 0} → (ℕ → X → Result X Refusal) → X → ℕ → Result X Refusal
stepped f x zero = Ok x
stepped f x (suc n) = followed (stepped f x n) (f n)

-- one more item behind those that were found
abbrev pub found_more : {X : Type 0} → (ℕ → Result X Refusal) → ℕ → List X → Result (List X) Refusal
found_more f n xs = followed (f n) (λ x. Ok (xs ++ x ∷ []))

-- the items of the first n places in order, or the first refusal, which has a place of its own
abbrev pub all_found : {X : Type 0} → (ℕ → Result X Refusal) → ℕ → Result (List X) Refusal
all_found f n = stepped (found_more f) [] n

-- a call made of x what is to be made of it
abbrev pub Leaves : {X : Type 0} → Result (Unit {0}) Refusal → Result X Refusal → X → Type 0
Leaves (Ok u) made new = made ≡ Ok new
Leaves (Err r) made new = r.status ≢ NoMemory → made ≡ Err r

-- the same of a call that tells no place
abbrev pub Changes : {X : Type 0} → Result (Unit {0}) Status → Result X Status → X → Type 0
Changes (Ok u) made new = made ≡ Ok new
Changes (Err s) made new = s ≢ NoMemory → made ≡ Err s

-- what is read is told to be refused at a place
abbrev pub placed : {X : Type 0} → (Status → Refusal) → Result X Status → Result X Refusal
placed at (Ok x) = Ok x
placed at (Err s) = Err (at s)
