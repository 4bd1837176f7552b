-- What a pass from predicate to predicate keeps.
use Rattle.std.specs.Prelude.{◌≡◌, ◌<◌, ◌^◌, ℕ, Bool, List, IsTrue}
use Rattle.vortex_base.specs.Data.Columns.{IsRow}
use Rattle.vortex_base.specs.Data.Scalars.{Constant}
use Rattle.vortex_expr.specs.Meanings.Fitting.{fits_row}
use Rattle.vortex_expr.specs.Meanings.Meaning.{satisfies}
use Rattle.vortex_expr.specs.Trees.Tree.{Tree, Place, all_columns, is_plain}

-- on every row that the first fits, the second is satisfied exactly where the first is
abbrev pub Same : (p q : Tree Place) → Type 0
Same p q = (row : List Constant) (n : ℕ) → IsRow row → IsTrue (fits_row p row) → n < 2 ^ 64 → satisfies q row n ≡ satisfies p row n

-- what is so of each column of the first is so of each of the second: it fits each scope and each row that the first does
abbrev pub HasNoOther : (p q : Tree Place) → Type 0
HasNoOther p q = (test : Place → Bool) → IsTrue (all_columns test p) → IsTrue (all_columns test q)

-- it is plain where the first is
abbrev pub StaysPlain : (p q : Tree Place) → Type 0
StaysPlain p q = IsTrue (is_plain p) → IsTrue (is_plain q)
