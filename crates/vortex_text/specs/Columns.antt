-- The columns of a part, as lines add to them.
use Rattle.std.specs.Prelude.{List, [], ◌∷◌, ◌++◌, Option, Some, option_map}
use Rattle.vortex_base.specs.Data.Columns.{ColumnData}
use Rattle.vortex_base.specs.declared.scalar_value.ScalarValue.{ScalarValue}
use Rattle.vortex_syntax.specs.Fails.{◌>>=◌}
use Rattle.vortex_syntax.specs.Values.{optional_value_of}
use Rattle.vortex_syntax.specs.Words.{Token, first_word, no_word}

-- the column with one more value
abbrev pub with_value : Option ScalarValue → ColumnData → ColumnData
with_value v c = record { dtype = c.dtype; values = c.values ++ v ∷ []; size = c.size }

-- the column with the value of the first word, and the words after it
abbrev pub taken : ColumnData → List Token → Option (ColumnData × List Token)
taken c ws = do
  word ← first_word ws
  v ← optional_value_of c.dtype word.0
  Some (with_value v c, word.1)

-- each column with the value of its word, of which there are as many as columns
abbrev pub with_values : List ColumnData → List Token → Option (List ColumnData)
with_values [] ws = do
  none ← no_word ws
  Some []
with_values (c ∷ cs) ws = do
  longer ← taken c ws
  more ← with_values cs longer.1
  Some (longer.0 ∷ more)

-- columns in front of those that are to be read
abbrev pub behind : List ColumnData → Option (List ColumnData) → Option (List ColumnData)
behind front read = option_map (λ more. front ++ more) read
