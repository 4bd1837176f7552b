-- Lists of things as they are seen, as loops go over them.
use Rattle.std.proofs.Common.{◌≡◌, ℕ, suc, ◌+◌, ◌≤◌, ◌<◌, List, [], ◌∷◌, ◌++◌, length, sym, ap, ◌∙◌, append_assoc, add-one, map, drop, drop-cons, get_or}
use Rattle.std.proofs.lemmas.List.{append-nil, drop-map, drop_all}

pub drop_view : {X Y : Type 0} (f : X → Y) (xs : List X) (i : ℕ) (d : X) → i < length xs → drop i (map f xs) ≡ f (get_or xs i d) ∷ drop (i + 1) (map f xs)
drop_view {X} {Y} f xs i d lt =
    drop-map f i xs ∙ ap (map f) (drop-cons xs i d lt)
    ∙ ap (λ (ys : List Y). f (get_or xs i d) ∷ ys) (sym (drop-map f (suc i) xs) ∙ ap (λ (n : ℕ). drop n (map f xs)) (sym (add-one i)))

pub drop_none : {X Y : Type 0} (f : X → Y) (xs : List X) (i : ℕ) → length xs ≤ i → drop i (map f xs) ≡ []
drop_none f xs i le = drop-map f i xs ∙ ap (map f) (drop_all i xs le)

-- what was made of each before, and what is still to be made
pub map_goes : {X Y Z : Type 0} (f : X → Y) (g : Y → Z) (xs : List X) (front : List Z) (i : ℕ) (d : X) (z : Z) → i < length xs → z ≡ g (f (get_or xs i d))
    → front ++ map g (drop i (map f xs)) ≡ map g (map f xs) → (front ++ z ∷ []) ++ map g (drop (i + 1) (map f xs)) ≡ map g (map f xs)
map_goes {X} {Y} {Z} f g xs front i d z lt h so_far =
    let others : List Z = map g (drop (i + 1) (map f xs)) in
    let one : map g (drop i (map f xs)) ≡ z ∷ others = ap (map g) (drop_view f xs i d lt) ∙ ap (λ (y : Z). y ∷ others) (sym h) in
    append_assoc front (z ∷ []) others ∙ ap (λ (ys : List Z). front ++ ys) (sym one) ∙ so_far

pub map_done : {X Y Z : Type 0} (f : X → Y) (g : Y → Z) (xs : List X) (front : List Z) (i : ℕ) → length xs ≤ i → front ++ map g (drop i (map f xs)) ≡ map g (map f xs) → front ≡ map g (map f xs)
map_done {X} {Y} {Z} f g xs front i le so_far =
    let none : map g (drop i (map f xs)) ≡ [] = ap (map g) (drop_none f xs i le) in
    sym (append-nil front) ∙ ap (λ (ys : List Z). front ++ ys) (sym none) ∙ so_far
