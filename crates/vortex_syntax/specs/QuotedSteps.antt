-- The bytes between quotes, one after another.
use Rattle.std.specs.Prelude.{◌≡◌, ℕ, ◌==◌, ◌||◌, List, [], ◌∷◌, Option, None, Some, Result, Ok, Err, if◌then◌else◌, ⊤}
use Rattle.vortex_syntax.specs.Words.{Broken, closed, quoted, words_from}
use Rattle.vortex_syntax.specs.declared.line_error.LineError.{LineError}
use Rattle.vortex_syntax.specs.declared.line_error.LineError.TheVariants as errors

-- the byte behind a backslash, and what follows it
abbrev pub escape_of : List ℕ → Option (Option ℕ × List ℕ)
escape_of [] = None
escape_of (c ∷ bs) = if c == 34 || c == 92 then Some (Some c, bs) else None

-- the next byte of a text between quotes, or none where a quote closes it, and what follows
abbrev pub step_of : List ℕ → Option (Option ℕ × List ℕ)
step_of [] = None
step_of (b ∷ bs) = if b == 34 then Some (None, bs) else (if b == 92 then escape_of bs else Some (Some b, bs))

-- the text between quotes that bytes begin with, and what follows its last quote; or the word is broken
abbrev pub Closes : {X : Type 0} → (X → List ℕ × List ℕ) → List ℕ → Result X LineError → Type 0
Closes view bytes (Ok x) = words_from bytes (quoted []) ≡ words_from ((view x).1) (closed ((view x).0))
Closes view bytes (Err (errors.Bad fault)) = words_from bytes (quoted []) ≡ Broken ∷ []
Closes view bytes (Err errors.Memory) = ⊤
