-- How words are written in a line: with spaces between them, each as it is or between quotes.
use Rattle.std.specs.Prelude.{◌≡◌, ◌≢◌, ◌==◌, ◌||◌, ◌++◌, ℕ, Bool, true, false, List, [], ◌∷◌, IsFalse, if◌then◌else◌, ⊤}
use Rattle.std.specs.List.{AllByRecursion, flat_map, list_any}
use Rattle.vortex_syntax.specs.Words.{Token, Plain, Quoted, Broken, words}

-- a byte between quotes: behind a backslash if it is a quote or a backslash
abbrev pub spelled_byte : ℕ → List ℕ
spelled_byte b = if b == 34 || b == 92 then 92 ∷ b ∷ [] else b ∷ []

-- a word as it is written
abbrev pub spelled : Token → List ℕ
spelled (Plain word) = word
spelled (Quoted text) = 34 ∷ (flat_map spelled_byte text ++ 34 ∷ [])
spelled Broken = []

-- A word can be written: one without quotes has a byte, none of its bytes is a space, and the first is no quote. Every text can stand between quotes.
abbrev pub CanBeSpelled : Token → Type 0
CanBeSpelled (Plain []) = ⊥
CanBeSpelled (Plain (b ∷ bs)) = (b ≢ 34) × AllByRecursion (λ c. c ≢ 32) (b ∷ bs)
CanBeSpelled (Quoted text) = ⊤
CanBeSpelled Broken = ⊥

-- a word ends here: nothing follows, or a space
abbrev pub IsParted : List ℕ → Type 0
IsParted [] = ⊤
IsParted (b ∷ bs) = b ≡ 32

-- the line is these words in their order: a space or more between two of them, and maybe some in front and behind
abbrev pub IsLineOf : List Token → List ℕ → Type 0
IsLineOf [] line = AllByRecursion (λ b. b ≡ 32) line
IsLineOf (w ∷ ws) line = (spaces : List ℕ) × (rest : List ℕ)
    × (line ≡ spaces ++ (spelled w ++ rest)) × AllByRecursion (λ b. b ≡ 32) spaces × CanBeSpelled w × IsParted rest × IsLineOf ws rest

abbrev pub is_broken : Token → Bool
is_broken Broken = true
is_broken w = false

-- the words of a line that was so written are read back
abbrev pub WordsAreReadBack : Type 0
WordsAreReadBack = (line : List ℕ) (ws : List Token) → IsLineOf ws line → words line ≡ ws

-- every line was so written that has no broken word
abbrev pub LinesAreWords : Type 0
LinesAreWords = (line : List ℕ) → IsFalse (list_any is_broken (words line)) → IsLineOf (words line) line
