-- What a whole text names: parts and a predicate, or its first bad line.
use Rattle.std.specs.Prelude.{◌≡◌, ◌+◌, ℕ, List, [], ◌∷◌, ◌++◌, Option, None, Some, Result, Ok, Err, length, ⊤}
use Rattle.std.specs.Str.Lines.{lines}
use Rattle.vortex_expr.specs.Trees.Tree.{Tree, Place}
use Rattle.vortex_prune.specs.Part.{PartData}
use Rattle.vortex_text.specs.declared.naming.InputError.{InputError}
use Rattle.vortex_text.specs.declared.naming.InputError.TheVariants as errors
use Rattle.vortex_text.specs.Lines.{Reading, nothing_read, parts_of, read_line}

-- parts and a predicate over their rows
abbrev pub Query : Type 0
Query = List PartData × Tree Place

-- these lines are fine one after another, and lead from old to new
abbrev pub Reads : Reading → List (List ℕ) → Reading → Type 0
Reads old [] new = old ≡ new
Reads old (line ∷ more) new = (next : Reading) × (read_line old line ≡ Some next) × Reads next more new

-- all the lines are fine, and what they say has these parts and this predicate
abbrev pub NamesQuery : List ℕ → List PartData → Tree Place → Type 0
NamesQuery text parts predicate = (r : Reading) × Reads nothing_read (lines text) r × (parts_of r ≡ parts) × (r.predicate ≡ Some predicate)

-- after r the first of these lines is bad; where there is none, no predicate was read
abbrev pub StopsAt : Reading → List (List ℕ) → Type 0
StopsAt r [] = r.predicate ≡ None
StopsAt r (line ∷ more) = read_line r line ≡ None

-- the lines before the nth are fine, and after those the nth is bad, or there is none and no predicate
abbrev pub IsFirstBad : List ℕ → ℕ → Type 0
IsFirstBad text n = (front : List (List ℕ)) × (rest : List (List ℕ)) × (r : Reading)
    × (lines text ≡ front ++ rest) × (n ≡ length front + 1) × Reads nothing_read front r × StopsAt r rest

-- after the last line there has to be a predicate; else the line after it is bad
abbrev pub finish : ℕ → List PartData → Option (Tree Place) → Result Query ℕ
finish n parts None = Err n
finish n parts (Some predicate) = Ok (parts, predicate)

-- a bad line ends the reading, and else the lines after it are read
abbrev pub go_on : ℕ → Option Reading → (Reading → Result Query ℕ) → Result Query ℕ
go_on n None more = Err n
go_on n (Some r) more = more r

-- what the lines from number n on say, after those that gave r
abbrev pub named_from : ℕ → Reading → List (List ℕ) → Result Query ℕ
named_from n r [] = finish n (parts_of r) r.predicate
named_from n r (line ∷ more) = go_on n (read_line r line) (λ next. named_from (n + 1) next more)

-- the parts and the predicate that a text names, or the number of its first bad line
abbrev pub named : List ℕ → Result Query ℕ
named text = named_from 1 nothing_read (lines text)

-- what a call returned is what the text names; memory may be refused
abbrev pub IsNamed : {X : Type 0} → (X → Query) → Result X InputError → Result Query ℕ → Type 0
IsNamed view (Ok x) says = says ≡ Ok (view x)
IsNamed view (Err errors.Memory) says = ⊤
IsNamed view (Err (errors.BadLine bad)) says = says ≡ Err bad.number
