-- Columns that take the values of a row, one after another.
use Rattle.std.proofs.Common.{◌≡◌, ◌<◌, ◌+◌, ℕ, zero, suc, true, List, [], ◌∷◌, ◌++◌, Option, length, map, set, get_or, take, drop, refl, ap, ap₂, sym, ◌∙◌, append_assoc, add-one, arith}
use Rattle.std.proofs.lemmas.List.{take_all, take-append-le, take_more_set}
use Rattle.vortex_base.proofs.Data.ChunkLemmas.{equal_numbers}
use Rattle.vortex_base.specs.Data.Columns.{ColumnData, all_fit, all_long, cut_to, row_fits, with_row, with_value}
use Rattle.vortex_base.specs.Data.Exact.{both_hold, both_true}
use Rattle.vortex_base.specs.Data.Scalars.{is_optional_value}
use Rattle.vortex_base.specs.declared.dtype.DType.{DType}
use Rattle.vortex_base.specs.declared.scalar_value.ScalarValue.{ScalarValue}

-- ---- lists that are written at a place

drop_set_later : {X : Type 0} (xs : List X) (i : ℕ) (y : X) → i < length xs → drop (i + 1) (set xs i y) ≡ drop (i + 1) xs
drop_set_later [] i y within = absurd (omega arith)
drop_set_later (x ∷ xs) zero y within = refl
drop_set_later (x ∷ xs) (suc i) y within = rw add-one (rw add-one at (drop_set_later xs i y (omega arith)))

rest_at : {X : Type 0} (xs : List X) (i : ℕ) (d : X) → i < length xs → drop i xs ≡ get_or xs i d ∷ drop (i + 1) xs
rest_at [] i d within = absurd (omega arith)
rest_at (x ∷ xs) zero d within = refl
rest_at (x ∷ xs) (suc i) d within = rw add-one (rw add-one at (rest_at xs i d (omega arith)))

-- what a function makes of a list that is written by something of which it makes the same
same_set : {X Y : Type 0} (f : X → Y) (xs : List X) (i : ℕ) (y d : X) → i < length xs → f y ≡ f (get_or xs i d) → map f (set xs i y) ≡ map f xs
same_set f [] i y d within h = absurd (omega arith)
same_set f (x ∷ xs) zero y d within h = ap (λ z. z ∷ map f xs) h
same_set f (x ∷ xs) (suc i) y d within h = ap (λ zs. f x ∷ zs) (same_set f xs i y d (omega arith) h)

pub map-take : {X Y : Type 0} (f : X → Y) (n : ℕ) (xs : List X) → map f (take n xs) ≡ take n (map f xs)
map-take f zero xs = refl
map-take f (suc n) [] = refl
map-take f (suc n) (x ∷ xs) = ap (λ ys. f x ∷ ys) (map-take f n xs)

-- what a slice of all of a list leaves there
pub written : {X : Type 0} (n : ℕ) (new old : List X) → length new ≡ n → take n (new ++ drop (length new) old) ≡ new
written n new old long = take-append-le n new (drop (length new) old) (omega (arith, long)) ∙ take_all n new (omega (arith, long))

-- the first of values that fit a type
pub first_fit : (t : DType) (n : ℕ) (vs : List (Option ScalarValue)) → all_fit t vs ≡ true → all_fit t (take n vs) ≡ true
first_fit t zero vs h = refl
first_fit t (suc n) [] h = refl
first_fit t (suc n) (v ∷ vs) h = let both = both_true _ _ h in both_hold _ _ both.0 (first_fit t n vs both.1)

-- one more of a list to which a function was applied
pub map_more : {X : Type 0} (f : X → X) (xs whole : List X) (i : ℕ) (new d : X) → i < length xs → new ≡ f (get_or xs i d) → take i xs ++ map f (drop i xs) ≡ whole
    → take (i + 1) (set xs i new) ++ map f (drop (i + 1) (set xs i new)) ≡ whole
map_more f xs whole i new d within is h =
    rw (take_more_set xs i new within, drop_set_later xs i new within)
    (append_assoc (take i xs) (new ∷ []) (map f (drop (i + 1) xs))
    ∙ ap (λ ys. take i xs ++ ys) (ap (λ y. y ∷ map f (drop (i + 1) xs)) is ∙ sym (ap (map f) (rest_at xs i d within)))
    ∙ h)

-- ---- a column whose value comes next

-- while values are left there is a column for the next
pub has_place : (cs : List ColumnData) (i : ℕ) (v : Option ScalarValue) (vs : List (Option ScalarValue)) → row_fits (drop i cs) (v ∷ vs) ≡ true → i < length cs
has_place [] zero v vs h = cc
has_place [] (suc i) v vs h = cc
has_place (c ∷ cs) zero v vs h = omega arith
has_place (c ∷ cs) (suc i) v vs h = let rest = has_place cs i v vs h in omega (arith, rest)

-- the next value may stand in its column, and the others in those behind
pub next_fits : (cs : List ColumnData) (i : ℕ) (new d : ColumnData) (v : Option ScalarValue) (vs all : List (Option ScalarValue)) → all ≡ v ∷ vs → row_fits (drop i cs) all ≡ true
    → (i < length cs) × (is_optional_value v (get_or cs i d).dtype ≡ true) × (row_fits (drop (i + 1) (set cs i new)) vs ≡ true)
next_fits cs i new d v vs all is h =
    let here : row_fits (drop i cs) (v ∷ vs) ≡ true = sym (ap (row_fits (drop i cs)) is) ∙ h in
    let within = has_place cs i v vs here in
    let both = both_true _ _ (sym (ap (λ ds. row_fits ds (v ∷ vs)) (rest_at cs i d within)) ∙ here) in
    (within, both.0, ap (λ ds. row_fits ds vs) (drop_set_later cs i new within) ∙ both.1)

pub next_long : (cs : List ColumnData) (i n : ℕ) (new d : ColumnData) → i < length cs → all_long n (drop i cs) ≡ true
    → (length (get_or cs i d).values ≡ n) × (all_long n (drop (i + 1) (set cs i new)) ≡ true)
next_long cs i n new d within h =
    let both = both_true _ _ (sym (ap (all_long n) (rest_at cs i d within)) ∙ h) in
    (equal_numbers _ _ both.0, ap (all_long n) (drop_set_later cs i new within) ∙ both.1)

-- the column with its value, and those behind with theirs
pub row_more : (cs whole : List ColumnData) (i : ℕ) (new d : ColumnData) (v : Option ScalarValue) (vs all : List (Option ScalarValue)) → i < length cs → all ≡ v ∷ vs → new ≡ with_value (get_or cs i d) v
    → take i cs ++ with_row (drop i cs) all ≡ whole → take (i + 1) (set cs i new) ++ with_row (drop (i + 1) (set cs i new)) vs ≡ whole
row_more cs whole i new d v vs all within is pushed h =
    rw (take_more_set cs i new within, drop_set_later cs i new within)
    (append_assoc (take i cs) (new ∷ []) (with_row (drop (i + 1) cs) vs)
    ∙ ap (λ ds. take i cs ++ ds) (ap (λ c. c ∷ with_row (drop (i + 1) cs) vs) pushed ∙ sym (ap₂ with_row (rest_at cs i d within) is))
    ∙ h)

-- ---- what is cut again

cut_value : (n : ℕ) (c new : ColumnData) (v : Option ScalarValue) → length c.values ≡ n → new ≡ with_value c v → cut_to n new ≡ cut_to n c
cut_value n c new v long is =
    ap (cut_to n) is ∙ ap (λ vs. record { dtype = c.dtype; values = vs; size = c.size }) (take-append-le n c.values (v ∷ []) (omega (arith, long)))

pub cut_more : (cs whole : List ColumnData) (i n : ℕ) (new d : ColumnData) (v : Option ScalarValue) → i < length cs → length (get_or cs i d).values ≡ n → new ≡ with_value (get_or cs i d) v
    → map (cut_to n) cs ≡ whole → map (cut_to n) (set cs i new) ≡ whole
cut_more cs whole i n new d v within long is h = same_set (cut_to n) cs i new d within (cut_value n (get_or cs i d) new v long is) ∙ h

-- columns of a length aren't changed by a cut to it
pub cut_whole : (n : ℕ) (cs : List ColumnData) → all_long n cs ≡ true → map (cut_to n) cs ≡ cs
cut_whole n [] h = refl
cut_whole n (c ∷ cs) h =
    let both = both_true _ _ h in
    let long = equal_numbers (length c.values) n both.0 in
    ap₂ (λ vs ds. record { dtype = c.dtype; values = vs; size = c.size } ∷ ds) (take_all n c.values (omega (arith, long))) (cut_whole n cs both.1)
