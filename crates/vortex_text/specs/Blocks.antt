-- Some lines of a text after those before them, and what a call answers that reads them.
use Rattle.std.specs.Prelude.{◌≡◌, ◌+◌, ◌⊎◌, ◌||◌, ℕ, List, [], ◌∷◌, ◌++◌, None, Result, Ok, Err, IsTrue, is_some, length}
use Rattle.vortex_text.specs.FirstLines.{may_take}
use Rattle.vortex_text.specs.Lines.{Reading, read_line}
use Rattle.vortex_text.specs.Naming.{Reads}
use Rattle.vortex_text.specs.declared.naming.InputError.{InputError}
use Rattle.vortex_text.specs.declared.naming.InputError.TheVariants as errors

-- so many of these lines are fine after r, and P is true of what they give and of the lines after them
abbrev pub ReadsFront : Reading → List (List ℕ) → (ℕ → Reading → List (List ℕ) → Type 0) → Type 0
ReadsFront r ls P = (front : List (List ℕ)) × (rest : List (List ℕ)) × (s : Reading) × (ls ≡ front ++ rest) × Reads r front s × P (length front) s rest

-- the first of these lines is bad after r
abbrev pub BeginsBad : Reading → List (List ℕ) → Type 0
BeginsBad r [] = ⊥
BeginsBad r (line ∷ more) = read_line r line ≡ None

-- What a call answers that reads these lines after r, the first of them with number n, and leaves s: the number of the next line, or that of the first bad one. Memory may be refused while a part takes rows, or to a line that takes some.
abbrev pub ReadsTo : ℕ → Reading → List (List ℕ) → Result ℕ InputError → Reading → Type 0
ReadsTo n r ls (Ok m) s = Reads r ls s × (m ≡ n + length ls)
ReadsTo n r ls (Err errors.Memory) s = ReadsFront r ls (λ count t rest. IsTrue (may_take t rest))
ReadsTo n r ls (Err (errors.BadLine bad)) s = ReadsFront r ls (λ count t rest. BeginsBad t rest × (bad.number ≡ n + count))

-- a front of these lines leads to a part that takes rows, to a predicate, or to a line that takes memory
abbrev pub MayRefuse : Reading → List (List ℕ) → Type 0
MayRefuse r ls = ReadsFront r ls (λ count t rest. IsTrue (may_take t rest || is_some t.predicate))

-- no bytes, or some that end in a line feed
abbrev pub EndsLine : List ℕ → Type 0
EndsLine bytes = (bytes ≡ []) ⊎ ((front : List ℕ) × (bytes ≡ front ++ 10 ∷ []))
