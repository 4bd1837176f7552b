-- Which lines take memory, and which texts have such a line.
use Rattle.std.specs.Prelude.{◌≡◌, ℕ, Bool, true, false, ◌&&◌, ◌||◌, List, ◌∷◌, ◌++◌, Option, None, Some, IsTrue, is_some, if◌then◌else◌}
use Rattle.std.specs.List.{list_any}
use Rattle.std.specs.Str.{is_utf8}
use Rattle.std.specs.Str.Lines.{lines}
use Rattle.vortex_base.specs.declared.dtype.DType.{DType}
use Rattle.vortex_stats.specs.declared.stat.Stat.{Stat}
use Rattle.vortex_syntax.specs.Copies.{claim_takes, is_copied}
use Rattle.vortex_syntax.specs.Expressions.{begins_expression}
use Rattle.vortex_syntax.specs.Fails.{when, ◌>>=◌}
use Rattle.vortex_syntax.specs.LineKinds.{kind_of}
use Rattle.vortex_syntax.specs.Numbers.{in_64_bits, natural_of}
use Rattle.vortex_syntax.specs.Statistics.{claimed}
use Rattle.vortex_syntax.specs.Words.{Token, no_word, plain_word, words}
use Rattle.vortex_syntax.specs.declared.line_kind.LineKind.{LineKind}
use Rattle.vortex_syntax.specs.declared.line_kind.LineKind.TheVariants as kind
use Rattle.vortex_text.specs.Lines.{Reading, nothing_read, read_column, read_join, read_part, read_stat}
use Rattle.vortex_text.specs.Naming.{Reads}

-- the value of a statistic takes memory, where one is claimed
abbrev pub value_takes : Option ((ℕ × Stat × DType) × List Token) → Bool
value_takes None = false
value_takes (Some claim) = claim_takes claim.0.2 claim.1

-- the place that a `join` names
abbrev pub place_in : List Token → Option ℕ
place_in ws = do
  place ← plain_word ws
  none ← no_word place.1
  n ← natural_of place.0
  in_64_bits n

-- The words of a line of this kind, behind the first, take memory. A column, a part, a statistic and a join do if the line is fine, a join also where it ends a part, a statistic also by its value; a row does if there is a part; a predicate does by a text between quotes or as an expression.
abbrev pub kind_takes : LineKind → Reading → List Token → Bool
kind_takes kind.Column r ws = is_some (read_column r ws)
kind_takes kind.Part r ws = is_some (read_part r ws)
kind_takes kind.Stat r ws = value_takes (claimed r.scope ws) || is_some (read_stat r ws)
kind_takes kind.Row r ws = is_some r.current
kind_takes kind.Join r ws = is_some (place_in ws) && (is_some r.current || is_some (read_join r ws))
kind_takes kind.Where r ws = list_any is_copied ws || begins_expression ws

-- the words of a line take memory
abbrev pub words_take : Reading → List Token → Bool
words_take r ws = is_some (do
  within ← when (if is_some r.predicate then false else true) ws
  first ← plain_word within
  k ← kind_of first.0
  when (kind_takes k r first.1) k)

-- a line takes memory, after those that gave r
abbrev pub line_takes : Reading → List ℕ → Bool
line_takes r line = is_utf8 line && words_take r (words line)

-- some line takes memory, after lines that are fine
abbrev pub TakesMemory : List ℕ → Type 0
TakesMemory text = (front : List (List ℕ)) × (line : List ℕ) × (rest : List (List ℕ)) × (r : Reading)
    × (lines text ≡ front ++ line ∷ rest) × Reads nothing_read front r × IsTrue (line_takes r line)
