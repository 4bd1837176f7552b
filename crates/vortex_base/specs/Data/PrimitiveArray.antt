-- Optional values that are kept in a vector of their own type, beside which of them are there.
use Rattle.std.specs.Prelude.{Bool, true, false, List, [], ◌∷◌, Option, None, Some}

-- a value that is there or isn't
abbrev pub optional : {X : Type 0} → Bool → X → Option X
optional true x = Some x
optional false x = None

-- the optional values, in order
abbrev pub optionals : {X : Type 0} → List X → List Bool → List (Option X)
optionals [] ts = []
optionals (x ∷ xs) [] = []
optionals (x ∷ xs) (t ∷ ts) = optional t x ∷ optionals xs ts

-- the optional value at a place, and none past the end
abbrev pub native_at : {X : Type 0} → Option (Option X) → Option X
native_at None = None
native_at (Some x) = x
