-- Whether the columns of a typed expression are those of a scope, or of a row.
use Rattle.std.specs.Prelude.{ℕ, Bool, false, Option, Some, None, List, IsTrue, slice_get}
use Rattle.vortex_base.specs.declared.dtype.DType.{DType}
use Rattle.vortex_base.specs.Data.Types.{dtype_eq, eq_ignore_nullability}
use Rattle.vortex_base.specs.Data.Scalars.{Constant}
use Rattle.vortex_base.specs.Data.Scopes.{Named}
use Rattle.vortex_base.specs.Data.Columns.{ChunkData, IsChunk, row_of}
use Rattle.vortex_expr.specs.Trees.Tree.{Tree, Place, all_columns}

-- the column has this type
abbrev pub is_of_type : DType → Option Named → Bool
is_of_type t None = false
is_of_type t (Some c) = dtype_eq c.1 t

-- each column's place and type are the scope's
abbrev pub fits_scope : Tree Place → List Named → Bool
fits_scope e scope = all_columns (λ c. is_of_type c.dtype (slice_get scope c.index)) e

-- the cell has this type, nullability aside
abbrev pub is_cell_of : DType → Option Constant → Bool
is_cell_of t None = false
is_cell_of t (Some c) = eq_ignore_nullability c.dtype t

-- each column has its place in the row, and its type there, nullability aside
abbrev pub fits_row : Tree Place → List Constant → Bool
fits_row e row = all_columns (λ c. is_cell_of c.dtype (slice_get row c.index)) e

-- the cell has this very type
abbrev pub is_cell_of_type : DType → Option Constant → Bool
is_cell_of_type t None = false
is_cell_of_type t (Some c) = dtype_eq c.dtype t

-- each column has its place in the row, and its very type there
abbrev pub matches_row : Tree Place → List Constant → Bool
matches_row e row = all_columns (λ c. is_cell_of_type c.dtype (slice_get row c.index)) e

-- an expression that fits the scope of a chunk fits its rows
abbrev pub RowsFit : Tree Place → ChunkData → ℕ → Type 0
RowsFit e k i = IsChunk k → IsTrue (fits_scope e k.scope) → IsTrue (fits_row e (row_of i k.columns))

-- and matches them
abbrev pub RowsMatch : Tree Place → ChunkData → ℕ → Type 0
RowsMatch e k i = IsChunk k → IsTrue (fits_scope e k.scope) → IsTrue (matches_row e (row_of i k.columns))
