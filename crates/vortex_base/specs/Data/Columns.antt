-- Columns, chunks of columns, and the rows of a chunk.
use Rattle.std.specs.Prelude.{ℕ, ◌+◌, ◌^◌, ◌++◌, nat_lt, Bool, true, List, [], ◌∷◌, Result, Ok, Err, Option, Some, None, IsTrue, if◌then◌else◌, ◌&&◌, length, ◌==◌, slice_get, map, take}
use Rattle.std.specs.List.{list_all}
use lib.Pointwise.{pointwise}
use Rattle.vortex_base.specs.Data.Types.{dtype_eq}
use Rattle.vortex_base.specs.Data.Scalars.{Constant, is_optional_value}
use Rattle.vortex_base.specs.Data.Scopes.{Named, is_scope}
use Rattle.vortex_base.specs.declared.dtype.DType.{DType}
use Rattle.vortex_base.specs.declared.scalar_value.ScalarValue.{ScalarValue}
use Rattle.vortex_base.specs.declared.error.BaseError.{BaseError}
use Rattle.vortex_base.specs.declared.error.BaseError.TheVariants.{Mismatch, RowShape}

-- a column: a type, optional values in order, and a size in bytes as it was declared
pub record ColumnData : Type 0 where
  pub dtype : DType
  pub values : List (Option ScalarValue)
  pub size : ℕ

-- each optional value may stand under the type
abbrev pub all_fit : DType → List (Option ScalarValue) → Bool
all_fit t vs = list_all (λ v. is_optional_value v t) vs

abbrev pub is_column : ColumnData → Bool
is_column c = all_fit c.dtype c.values

abbrev pub IsColumn : ColumnData → Type 0
IsColumn c = IsTrue (is_column c)

-- the column of a type, values and a size, where the values fit the type
abbrev pub column_of : DType → List (Option ScalarValue) → ℕ → Result ColumnData BaseError
column_of t vs n = if all_fit t vs then Ok (record { dtype = t; values = vs; size = n }) else Err Mismatch

-- a chunk: a scope and its columns, in the scope's order
pub record ChunkData : Type 0 where
  pub scope : List Named
  pub columns : List ColumnData

-- the number of rows: the length of the first column
abbrev pub row_count : List ColumnData → ℕ
row_count [] = 0
row_count (c ∷ cs) = length c.values

-- each column has n values
abbrev pub all_long : ℕ → List ColumnData → Bool
all_long n cs = list_all (λ c. length c.values == n) cs

-- there are as many columns as names, all of one length
abbrev pub has_shape : List Named → List ColumnData → Bool
has_shape ss cs = (length ss == length cs) && all_long (row_count cs) cs

-- there are as many columns as names, each of its name's type
abbrev pub has_types : List Named → List ColumnData → Bool
has_types ss cs = pointwise (λ s c. dtype_eq s.1 c.dtype) ss cs

-- the values of one column after those of another of its type, with the sizes added
abbrev pub appended : ColumnData → ColumnData → ColumnData
appended c d = record { dtype = c.dtype; values = c.values ++ d.values; size = c.size + d.size }

-- a column that has lost its values, and with them its size
abbrev pub emptied : ColumnData → ColumnData
emptied c = record { dtype = c.dtype; values = []; size = 0 }

-- each column with the values of the one beside it after its own
abbrev pub all_appended : List ColumnData → List ColumnData → List ColumnData
all_appended (c ∷ cs) (d ∷ ds) = appended c d ∷ all_appended cs ds
all_appended cs ds = cs

-- a column with one more value, its size as it was
abbrev pub with_value : ColumnData → Option ScalarValue → ColumnData
with_value c v = record { dtype = c.dtype; values = c.values ++ v ∷ []; size = c.size }

-- a column with its first values alone
abbrev pub cut_to : ℕ → ColumnData → ColumnData
cut_to n c = record { dtype = c.dtype; values = take n c.values; size = c.size }

-- each column with the value beside it after its own
abbrev pub with_row : List ColumnData → List (Option ScalarValue) → List ColumnData
with_row (c ∷ cs) (v ∷ vs) = with_value c v ∷ with_row cs vs
with_row cs vs = cs

-- there are as many values as columns, and each may stand under its column's type
abbrev pub row_fits : List ColumnData → List (Option ScalarValue) → Bool
row_fits cs vs = pointwise (λ c v. is_optional_value v c.dtype) cs vs

-- the chunk with one more row, if the row fits
abbrev pub pushed_chunk : ChunkData → List (Option ScalarValue) → Result ChunkData BaseError
pushed_chunk k vs = if row_fits k.columns vs then Ok (record { scope = k.scope; columns = with_row k.columns vs }) else Err Mismatch

-- there are as many columns on either side, of equal types, and no two sizes add up past 64 bits
abbrev pub can_append : List ColumnData → List ColumnData → Bool
can_append cs ds = pointwise (λ c d. dtype_eq c.dtype d.dtype && nat_lt (c.size + d.size) (2 ^ 64)) cs ds

-- the chunk of a scope and columns, where they have its shape and types
abbrev pub chunk_of : List Named → List ColumnData → Result ChunkData BaseError
chunk_of ss cs =
    if has_shape ss cs
    then (if has_types ss cs then Ok (record { scope = ss; columns = cs }) else Err Mismatch)
    else Err RowShape

-- no two sizes of columns at one place add up past 64 bits
abbrev pub sizes_fit : List ColumnData → List ColumnData → Bool
sizes_fit (c ∷ cs) (d ∷ ds) = nat_lt (c.size + d.size) (2 ^ 64) && sizes_fit cs ds
sizes_fit cs ds = true

-- the rows of one chunk after those of another of its scope, with the sizes added
abbrev pub appended_chunk : ChunkData → ChunkData → ChunkData
appended_chunk k l = record { scope = k.scope; columns = all_appended k.columns l.columns }

-- a chunk that has lost its rows
abbrev pub emptied_chunk : ChunkData → ChunkData
emptied_chunk k = record { scope = k.scope; columns = map emptied k.columns }

-- a chunk's columns are of its scope, and each is a column
abbrev pub is_chunk : ChunkData → Bool
is_chunk k = is_scope k.scope && (has_shape k.scope k.columns && (has_types k.scope k.columns && list_all is_column k.columns))

abbrev pub IsChunk : ChunkData → Type 0
IsChunk k = IsTrue (is_chunk k)

-- the optional value at a place of a column, and null past the end
abbrev pub value_at : Option (Option ScalarValue) → Option ScalarValue
value_at None = None
value_at (Some v) = v

-- a row: the optional value of each column at one place, with the column's type
abbrev pub row_of : ℕ → List ColumnData → List Constant
row_of i cs = map (λ c. record { dtype = c.dtype; value = value_at (slice_get c.values i) }) cs

-- each optional value of a row may stand under its type
abbrev pub is_row : List Constant → Bool
is_row cs = list_all (λ c. is_optional_value c.value c.dtype) cs

abbrev pub IsRow : List Constant → Type 0
IsRow cs = IsTrue (is_row cs)

-- the optional value in a row's cell, and null where there is no such cell
abbrev pub cell_value : Option Constant → Option ScalarValue
cell_value None = None
cell_value (Some c) = c.value
