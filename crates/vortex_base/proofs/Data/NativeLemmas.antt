-- Optional values that are kept as two lists.
use Rattle.std.proofs.Common.{◌≡◌, ◌<◌, ◌≤◌, ◌-◌, ℕ, zero, suc, Bool, true, false, List, [], ◌∷◌, ◌++◌, None, Some, length, get_or, map, replicate, set, take, slice_get, refl, ap, ap₂, ◌∙◌, arith}
use Rattle.vortex_base.specs.Data.PrimitiveArray.{native_at, optional, optionals}

pub optionals-length : {X : Type 0} (xs : List X) (ts : List Bool) → length xs ≡ length ts → length (optionals xs ts) ≡ length xs
optionals-length [] ts h = refl
optionals-length (x ∷ xs) [] h = absurd (omega arith)
optionals-length (x ∷ xs) (t ∷ ts) h = ap suc (optionals-length xs ts (omega arith))

pub optionals-append : {X : Type 0} (xs ys : List X) (ts us : List Bool) → length xs ≡ length ts → optionals (xs ++ ys) (ts ++ us) ≡ optionals xs ts ++ optionals ys us
optionals-append [] ys [] us h = refl
optionals-append [] ys (t ∷ ts) us h = absurd (omega arith)
optionals-append (x ∷ xs) ys [] us h = absurd (omega arith)
optionals-append (x ∷ xs) ys (t ∷ ts) us h = ap (λ zs. optional t x ∷ zs) (optionals-append xs ys ts us (omega arith))

pub optionals-take : {X : Type 0} (n : ℕ) (xs : List X) (ts : List Bool) → optionals (take n xs) (take n ts) ≡ take n (optionals xs ts)
optionals-take zero xs ts = refl
optionals-take (suc n) [] ts = refl
optionals-take (suc n) (x ∷ xs) [] = refl
optionals-take (suc n) (x ∷ xs) (t ∷ ts) = ap (λ zs. optional t x ∷ zs) (optionals-take n xs ts)

pub optionals-nulls : {X : Type 0} (n : ℕ) (x : X) → optionals (replicate n x) (replicate n false) ≡ replicate n None
optionals-nulls zero x = refl
optionals-nulls (suc n) x = ap (λ zs. None ∷ zs) (optionals-nulls n x)

pub optionals-set : {X : Type 0} (xs : List X) (ts : List Bool) (i : ℕ) (x : X) (t : Bool) → optionals (set xs i x) (set ts i t) ≡ set (optionals xs ts) i (optional t x)
optionals-set [] ts i x t = refl
optionals-set (y ∷ ys) [] zero x t = refl
optionals-set (y ∷ ys) [] (suc i) x t = refl
optionals-set (y ∷ ys) (u ∷ us) zero x t = refl
optionals-set (y ∷ ys) (u ∷ us) (suc i) x t = ap (λ zs. optional u y ∷ zs) (optionals-set ys us i x t)

pub optionals-forget : {X : Type 0} (xs : List X) (ts : List Bool) (i : ℕ) → optionals xs (set ts i false) ≡ set (optionals xs ts) i None
optionals-forget [] ts i = refl
optionals-forget (y ∷ ys) [] i = refl
optionals-forget (y ∷ ys) (u ∷ us) zero = refl
optionals-forget (y ∷ ys) (u ∷ us) (suc i) = ap (λ zs. optional u y ∷ zs) (optionals-forget ys us i)

pub optionals-all : {X : Type 0} (xs : List X) → optionals xs (replicate (length xs) true) ≡ map Some xs
optionals-all [] = refl
optionals-all (x ∷ xs) = ap (λ zs. Some x ∷ zs) (optionals-all xs)

-- a list that is filled anew
pub resized : {X : Type 0} (n : ℕ) (xs : List X) (x : X) → xs ≡ [] → (m : ℕ) → m ≡ 0 → take n xs ++ replicate (n - m) x ≡ replicate n x
resized n xs x is m none =
    let count : n - m ≡ n = omega (arith, none) in
    ap₂ (λ ys k. take n ys ++ replicate k x) is count ∙ taken_of_none n (replicate n x)
  where
    taken_of_none : {Y : Type 0} (k : ℕ) (ys : List Y) → take k [] ++ ys ≡ ys
    taken_of_none zero ys = refl
    taken_of_none (suc k) ys = refl

-- what stands at a place
pub optionals-at : {X : Type 0} (xs : List X) (ts : List Bool) (i : ℕ) (d : X) (b : Bool) → length xs ≡ length ts → i < length ts → native_at (slice_get (optionals xs ts) i) ≡ optional (get_or ts i b) (get_or xs i d)
optionals-at xs [] i d b h low = absurd (omega arith)
optionals-at [] (t ∷ ts) i d b h low = absurd (omega arith)
optionals-at (x ∷ xs) (t ∷ ts) zero d b h low = refl
optionals-at (x ∷ xs) (t ∷ ts) (suc i) d b h low = optionals-at xs ts i d b (omega arith) (omega arith)

-- nothing stands past the end
pub optionals-past : {X : Type 0} (xs : List X) (ts : List Bool) (i : ℕ) → length ts ≤ i → native_at (slice_get (optionals xs ts) i) ≡ None
optionals-past [] ts i past = refl
optionals-past (x ∷ xs) [] i past = refl
optionals-past (x ∷ xs) (t ∷ ts) zero past = absurd (omega arith)
optionals-past (x ∷ xs) (t ∷ ts) (suc i) past = optionals-past xs ts i (omega arith)

-- a place that isn't told to be there
pub optionals-absent : {X : Type 0} (xs : List X) (ts : List Bool) (i : ℕ) (b : Bool) → length xs ≡ length ts → i < length ts → get_or ts i b ≡ false → native_at (slice_get (optionals xs ts) i) ≡ None
optionals-absent xs [] i b h low is = absurd (omega arith)
optionals-absent [] (t ∷ ts) i b h low is = absurd (omega arith)
optionals-absent (x ∷ xs) (t ∷ ts) zero b h low is = ap (λ u. native_at (Some (optional u x))) is
optionals-absent (x ∷ xs) (t ∷ ts) (suc i) b h low is = optionals-absent xs ts i b (omega arith) (omega arith) is
