-- Tests of lists that a function was mapped over.
use Rattle.std.specs.Prelude.{◌≡◌, Bool, ◌||◌, ◌&&◌, not, List, [], ◌∷◌, map, refl, length}
use Rattle.std.specs.List.{list_all, list_any, zip, position, prefix_len}
use Rattle.std.proofs.Common.{ap, arith, rules}
use Rattle.std.proofs.lemmas.List.{length-map}
use lib.Pointwise.{pointwise}

pub list_any-map : {X Y : Type 0} (p : Y → Bool) (f : X → Y) (xs : List X) → list_any p (map f xs) ≡ list_any (λ x. p (f x)) xs
list_any-map p f [] = refl
list_any-map p f (x ∷ xs) = ap (λ b. p (f x) || b) (list_any-map p f xs)

prefix_len-map : {X Y : Type 0} (p : Y → Bool) (f : X → Y) (xs : List X) → prefix_len p (map f xs) ≡ prefix_len (λ x. p (f x)) xs
prefix_len-map p f [] = refl
prefix_len-map p f (x ∷ xs) = search (rules, prefix_len-map p f xs)

pub position-map : {X Y : Type 0} (p : Y → Bool) (f : X → Y) (xs : List X) → position p (map f xs) ≡ position (λ x. p (f x)) xs
position-map p f xs = rw (prefix_len-map (λ y. not (p y)) f xs, length-map xs f) refl

-- of lists as long as each other
pub list_all-zip : {X Y Z : Type 0} (E : Y → Z → Bool) (f : X → Y) (xs : List X) (zs : List Z) → length xs ≡ length zs → list_all (λ p. E (f p.0) p.1) (zip xs zs) ≡ pointwise E (map f xs) zs
list_all-zip E f [] [] h = refl
list_all-zip E f [] (z ∷ zs) h = absurd (omega arith)
list_all-zip E f (x ∷ xs) [] h = absurd (omega arith)
list_all-zip E f (x ∷ xs) (z ∷ zs) h = ap (λ b. E (f x) z && b) (list_all-zip E f xs zs (omega arith))

pub list_all-pairs : {X Y : Type 0} (E : X → Y → Bool) (xs : List X) (ys : List Y) → length xs ≡ length ys → list_all (λ p. E p.0 p.1) (zip xs ys) ≡ pointwise E xs ys
list_all-pairs E [] [] h = refl
list_all-pairs E [] (y ∷ ys) h = absurd (omega arith)
list_all-pairs E (x ∷ xs) [] h = absurd (omega arith)
list_all-pairs E (x ∷ xs) (y ∷ ys) h = ap (λ b. E x y && b) (list_all-pairs E xs ys (omega arith))
