-- Where a binder's answers have the values that it names, and where those are facts.
use Rattle.std.specs.Prelude.{◌≡◌, ℕ, Bool, false, Option, Some, None, Ok, List, IsTrue}
use Rattle.vortex_base.specs.declared.aggregate.AggregateFnRef.{AggregateFnRef}
use Rattle.vortex_base.specs.declared.dtype.DType.{DType}
use Rattle.vortex_base.specs.Data.Columns.{ChunkData, row_count as rows_of}
use Rattle.vortex_expr.specs.Meanings.Fitting.{fits_row}
use Rattle.vortex_expr.specs.Meanings.Meaning.{meaning}
use Rattle.vortex_base.specs.Data.Scalars.{Constant}
use Rattle.vortex_expr.specs.Trees.Tree.{Tree, Place, stat, has_placeholder}
use Rattle.vortex_base.specs.Data.Types.{as_nullable}
use Rattle.vortex_expr.specs.Meanings.Typing.{type_of}
use Rattle.vortex_rewrite.specs.Facts.{IsHonest}
use Rattle.vortex_rewrite.specs.Rewriting.Proof.{Assignment}

-- a tree of this type, nullability aside, that has a value on the row: it has no placeholder, and its columns are the row's
pub record IsAnswerOf (t : DType) (row : List Constant) (r : Tree Place) : Type 0 where
  pub typed : (s : DType) → type_of r ≡ Ok s → as_nullable s ≡ as_nullable t
  pub free : has_placeholder r ≡ false
  pub fits : IsTrue (fits_row r row)

-- what a binder answers to an aggregate of an input, the placeholder's type being given
abbrev pub BinderAnswer : Type 0
BinderAnswer = AggregateFnRef → Tree Place → DType → Option (Tree Place)

-- over a row of statistics and a row count: an answer to a placeholder of a type t has that type, nullability aside, has a value on the row, and it is the named one;
-- none is given only where the named value is null; and what stands for a missing one has the type asked for, has a value on the row, and it is null
pub record IsFaithful (answer : BinderAnswer) (IsMissing : DType → Tree Place → Type 0) (value : Assignment) (row : List Constant) (n : ℕ) : Type 0 where
  pub answers : (f : AggregateFnRef) (x : Tree Place) (t : DType) (r : Tree Place) → type_of (stat f x) ≡ Ok t → answer f x t ≡ Some r → IsAnswerOf t row r
  pub named : (f : AggregateFnRef) (x : Tree Place) (t : DType) (r : Tree Place) → type_of (stat f x) ≡ Ok t → answer f x t ≡ Some r → meaning r row n ≡ value f x
  pub unknown : (f : AggregateFnRef) (x : Tree Place) (t : DType) → type_of (stat f x) ≡ Ok t → answer f x t ≡ None → value f x ≡ None
  pub missing : (t : DType) (r : Tree Place) → IsMissing t r → IsAnswerOf t row r
  pub null : (t : DType) (r : Tree Place) → IsMissing t r → meaning r row n ≡ None

-- a binder is honest for a chunk over a row of statistics: it is faithful over that row and the chunk's row count, and the values named there are facts
abbrev pub IsHonestOver : (is_faithful_over : List Constant → ℕ → Bool) (value : List Constant → ℕ → Assignment) (row : List Constant) → ChunkData → Type 0
IsHonestOver is_faithful_over value row k = IsTrue (is_faithful_over row (rows_of k.columns)) × IsHonest (value row (rows_of k.columns)) k.columns
