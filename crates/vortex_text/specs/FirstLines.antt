-- The first line of a text, and the lines after it.
use Rattle.std.specs.Prelude.{◌≡◌, ◌<◌, ◌≤◌, ◌-◌, ◌||◌, ℕ, zero, suc, Bool, List, [], ◌∷◌, ◌++◌, Option, None, Some, IsTrue, codes, drop, is_some, length, option_map, take}
use Rattle.std.specs.List.{list_all}
use Rattle.std.specs.Str.{is_utf8}
use Rattle.std.specs.Str.Lines.{lines}
use Rattle.vortex_base.specs.Data.Columns.{ColumnData}
use Rattle.vortex_base.specs.declared.dtype.DType.{DType}
use Rattle.vortex_base.specs.declared.scalar_value.ScalarValue.{ScalarValue}
use Rattle.vortex_syntax.specs.Fails.{Fails, when, ◌>>=◌}
use Rattle.vortex_syntax.specs.Plain.{BeginsValue, EndsWord, is_line_byte}
use Rattle.vortex_syntax.specs.Spelling.{IsParted}
use Rattle.vortex_syntax.specs.Words.{words}
use Rattle.vortex_syntax.specs.declared.line_error.LineError.{LineError}
use Rattle.vortex_syntax.specs.declared.line_error.LineError.TheVariants.{Memory}
use Rattle.vortex_text.specs.Columns.{behind, with_value, with_values}
use Rattle.vortex_text.specs.Lines.{Reading, read_line}
use Rattle.vortex_text.specs.MemoryTaken.{line_takes}

-- what the first of some lines says, after those that gave r, and the lines after it
abbrev pub first_read : Reading → List (List ℕ) → Option (Reading × List (List ℕ))
first_read r [] = None
first_read r (line ∷ more) = option_map (λ next. (next, more)) (read_line r line)

-- a part takes rows, or the first line takes memory
abbrev pub may_take : Reading → List (List ℕ) → Bool
may_take r [] = is_some r.current
may_take r (line ∷ more) = is_some r.current || line_takes r line

-- The first line of a text led from one reading to another, and what follows it is the rest; where it is refused the rest is the text itself, and then why.
pub record IsFirstApart (old new : Reading) (text rest : List ℕ) (why : LineError) : Type 0 where
  pub read : length rest < length text → first_read old (lines text) ≡ Some (new, lines rest)
  pub refused : length text ≤ length rest → Fails why (first_read old (lines text))
  pub memory : length text ≤ length rest → why ≡ Memory → IsTrue (may_take old (lines text))

-- the columns with the values of the first line, of which the word `row` was passed, and the lines after it
abbrev pub first_row : List ColumnData → List (List ℕ) → Option (List ColumnData × List (List ℕ))
first_row cs [] = None
first_row cs (line ∷ more) = do
  text ← when (is_utf8 line) line
  longer ← with_values cs (words text)
  Some (longer, more)

-- the reading with the row of the first line, of which the word `row` was passed, and the lines after it
abbrev pub first_values : Reading → List (List ℕ) → Option (Reading × List (List ℕ))
first_values r ls = do
  part ← r.current
  row ← first_row part.chunk.columns ls
  Some (record r { current = Some (record { chunk = record { scope = part.chunk.scope; columns = row.0 }; stats = part.stats }) }, row.1)

-- the column takes a value in plain form at the front of a text, and what follows that is the rest
abbrev pub TakesValue : ColumnData → List ℕ → ColumnData → List ℕ → Type 0
TakesValue old text new rest = (v : Option ScalarValue) × BeginsValue old.dtype text v rest × (new ≡ with_value v old)

-- the values of a type get a value in plain form at the front of a text behind them, and what follows that is the rest
abbrev pub AddsValue : DType → List (Option ScalarValue) → List ℕ → List (Option ScalarValue) → List ℕ → Type 0
AddsValue t old text new rest = (v : Option ScalarValue) × BeginsValue t text v rest × (new ≡ old ++ v ∷ [])

-- So many rows stand at the front of a text, each a line that begins with the word `row`, and what follows them is the rest. They lead from old to new, each by what f makes of the lines behind that word.
abbrev pub TakesRows : {X : Type 0} → (X → List (List ℕ) → Option (X × List (List ℕ))) → ℕ → X → List ℕ → X → List ℕ → Type 0
TakesRows f zero old text new rest = (old ≡ new) × (text ≡ rest)
TakesRows f (suc n) old text new rest = (before : _) × (row values : List ℕ) × TakesRows f n old text before row
    × (row ≡ codes "row" ++ values) × EndsWord values × (f before (lines values) ≡ Some (new, lines rest))

-- the text begins with a row of one value of the type, in plain form, and what follows its line is the rest
abbrev pub BeginsOnly : DType → List ℕ → Option ScalarValue → List ℕ → Type 0
BeginsOnly t text v rest = (values : List ℕ) × (text ≡ codes "row" ++ values) × BeginsValue t values v (10 ∷ rest)

-- a column of these values, of no declared size
abbrev pub open_column : DType → List (Option ScalarValue) → ColumnData
open_column t vs = record { dtype = t; values = vs; size = 0 }

-- so many bytes of the text are left, of which P is true
abbrev pub LeavesBytes : ℕ → List ℕ → (List ℕ → Type 0) → Type 0
LeavesBytes left text P = (left < length text) × P (drop (length text - left) text)

-- So many columns took values at the front of a text, and what follows those is the rest. Whatever the line ends with, the others are to take the words of that.
pub record BeginsRow (old new : List ColumnData) (text rest : List ℕ) (count : ℕ) : Type 0 where
  pub front : List ℕ
  pub split : text ≡ front ++ rest
  pub clean : IsTrue (list_all is_line_byte front)
  pub row : (tail : List ℕ) → IsParted tail
      → with_values old (words (front ++ tail)) ≡ behind (take count new) (with_values (drop count new) (words tail))
