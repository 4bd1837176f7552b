-- The words of a line.
use Rattle.std.specs.Prelude.{ℕ, ◌==◌, ◌||◌, List, [], ◌∷◌, ◌++◌, Option, None, Some, if◌then◌else◌}
use Rattle.vortex_syntax.specs.declared.word.Word.{Word}
use Rattle.vortex_syntax.specs.declared.word.Word.TheVariants as word

-- a word, between quotes or not; `Broken` stands for a quoted word that isn't closed, isn't parted from what follows it by a space, or has another escape than the two
pub data Token : Type 0 where
  Plain : List ℕ → Token
  Quoted : List ℕ → Token
  Broken : Token

abbrev pub token_of : Word → Token
token_of (word.Plain text) = Plain text.now
token_of (word.Quoted text) = Quoted text.items

-- what a byte stands in: between words, or in one whose bytes so far are these, or behind the quote that closes one
pub data Place : Type 0 where
  between : Place
  plain : List ℕ → Place
  quoted : List ℕ → Place
  escaped : List ℕ → Place
  closed : List ℕ → Place

-- what a byte does there: it leads to another place, ends a word, or breaks one
pub data Step : Type 0 where
  leads : Place → Step
  ends : Token → Step
  breaks : Step

-- 32 is a space, 34 a quote, 92 a backslash
abbrev pub step : Place → ℕ → Step
step between b = if b == 32 then leads between else (if b == 34 then leads (quoted []) else leads (plain (b ∷ [])))
step (plain w) b = if b == 32 then ends (Plain w) else leads (plain (w ++ b ∷ []))
step (quoted w) b = if b == 34 then leads (closed w) else (if b == 92 then leads (escaped w) else leads (quoted (w ++ b ∷ [])))
step (escaped w) b = if b == 34 || b == 92 then leads (quoted (w ++ b ∷ [])) else breaks
step (closed w) b = if b == 32 then ends (Quoted w) else breaks

-- the words after a step
abbrev pub after_step : Step → (Place → List Token) → List Token
after_step (leads p) more = more p
after_step (ends w) more = w ∷ more between
after_step breaks more = Broken ∷ []

-- the words at a line's end
abbrev pub at_end : Place → List Token
at_end between = []
at_end (plain w) = Plain w ∷ []
at_end (quoted w) = Broken ∷ []
at_end (escaped w) = Broken ∷ []
at_end (closed w) = Quoted w ∷ []

-- the words of bytes that stand in a place
abbrev pub words_from : List ℕ → Place → List Token
words_from [] p = at_end p
words_from (b ∷ bs) p = after_step (step p b) (λ q. words_from bs q)

-- the words of a line
abbrev pub words : List ℕ → List Token
words line = words_from line between

-- ---- the first of a list of words, and those after it

abbrev pub first_word : List Token → Option (Token × List Token)
first_word [] = None
first_word (Plain w ∷ ws) = Some (Plain w, ws)
first_word (Quoted w ∷ ws) = Some (Quoted w, ws)
first_word (Broken ∷ ws) = None

-- one without quotes
abbrev pub plain_word : List Token → Option (List ℕ × List Token)
plain_word (Plain w ∷ ws) = Some (w, ws)
plain_word ws = None

-- there is none
abbrev pub no_word : List Token → Option (Unit {0})
no_word [] = Some tt
no_word ws = None

-- the most words that a predicate may have
abbrev pub word_limit : ℕ
word_limit = 4096
