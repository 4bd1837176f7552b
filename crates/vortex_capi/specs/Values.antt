-- A column of values as a caller hands it in.
use Rattle.std.specs.Prelude.{ℕ, ◌==◌, ◌||◌, ◌&&◌, Bool, true, false, not, List, [], ◌∷◌, Option, None, Some, Result, Ok, Err, if◌then◌else◌, length, slice_get}
use Rattle.vortex_base.specs.declared.dtype.DType.{DType}
use Rattle.vortex_base.specs.declared.dtype.DType.TheVariants as dtype
use Rattle.vortex_base.specs.declared.scalar_value.ScalarValue.{ScalarValue}
use Rattle.vortex_base.specs.Data.Columns.{ColumnData, all_fit}
use Rattle.vortex_base.specs.Data.Types.{is_nullable}
use Rattle.vortex_capi.specs.declared.fault.Refusal.{Refusal}
use Rattle.vortex_capi.specs.declared.status.Status.{Status}
use Rattle.vortex_capi.specs.declared.status.Status.TheVariants.{BadLength, BadNull, BadValue}
use Rattle.vortex_capi.specs.declared.values.Values.{Values}
use Rattle.vortex_capi.specs.Encoding.{value_of}
use Rattle.vortex_capi.specs.Given.{bytes_at, fill}
use Rattle.vortex_capi.specs.Refusals.{all_read, followed, placed}
use Rattle.vortex_capi.specs.Statuses.{at_entry, at_row, nowhere}
use Rattle.vortex_capi.specs.Types.{dtype_of}

abbrev pub null_byte : Option ℕ → Result Bool Status
null_byte None = Err BadLength
null_byte (Some b) = Ok (not (b == 0))

-- whether a row is null: with no bytes that say so none is
abbrev pub is_null : List ℕ → ℕ → Result Bool Status
is_null [] row = Ok false
is_null (b ∷ bs) row = null_byte (slice_get (b ∷ bs) row)

abbrev pub null_of : DType → Result (Option ScalarValue) Status
null_of t = if is_nullable t then Ok None else Err BadNull

-- the value that bytes of a type are
abbrev pub read_of : DType → Result (List ℕ) Status → Result ScalarValue Status
read_of t (Err s) = Err s
read_of t (Ok bytes) = value_of t bytes

abbrev pub value_at : DType → List ℕ → ℕ → List ℕ → ℕ → Result ScalarValue Status
value_at t values start ends row = read_of t (bytes_at t values start ends row)

abbrev pub present_cell : Result ScalarValue Status → Result (Option ScalarValue) Status
present_cell (Err s) = Err s
present_cell (Ok v) = Ok (Some v)

-- a null, where the row is one, or the value that stands there
abbrev pub cell_by : DType → Result Bool Status → Result ScalarValue Status → Result (Option ScalarValue) Status
cell_by t (Err s) v = Err s
cell_by t (Ok true) v = null_of t
cell_by t (Ok false) v = present_cell v

-- the optional value of a row; in a column of nulls each is null
abbrev pub cell : DType → List ℕ → ℕ → List ℕ → List ℕ → ℕ → Result (Option ScalarValue) Status
cell dtype.Null values start ends nulls row = Ok None
cell t values start ends nulls row = cell_by t (is_null nulls row) (value_at t values start ends row)

-- the optional values of the first rows, or the first row that is refused
abbrev pub cells : DType → List ℕ → ℕ → List ℕ → List ℕ → ℕ → Result (List (Option ScalarValue)) Refusal
cells t values start ends nulls rows = all_read at_row (cell t values start ends nulls) rows

-- the column of a type, if its values are of the type
abbrev pub column_of : DType → ℕ → List (Option ScalarValue) → Result ColumnData Refusal
column_of t size vs = if all_fit t vs then Ok (record { dtype = t; values = vs; size = size }) else Err (at_row BadValue 0)

-- the column of a type that is read from the arrays
abbrev pub read_column : DType → Values → Result ColumnData Refusal
read_column t v = followed (cells t v.values.now v.start v.ends.now v.nulls.now v.rows) (column_of t v.size)

-- a byte tells of each row whether it is null, or there are none
abbrev pub marks_fill : ℕ → List ℕ → Bool
marks_fill rows nulls = length nulls == 0 || length nulls == rows

-- the arrays have an element for each row, and no more
abbrev pub are_filled : DType → Values → Bool
are_filled t v = fill t v.rows v.values.now v.ends.now && marks_fill v.rows v.nulls.now

-- arrays of other lengths are refused
abbrev pub filled : DType → Values → Result (Unit {0}) Refusal
filled t v = if are_filled t v then Ok tt else Err (nowhere BadLength)

-- the column of a type, of arrays that have an element for each row
abbrev pub column : DType → Values → Result ColumnData Refusal
column t v = followed (filled t v) (λ u. read_column t v)

-- the type that is handed in with values
abbrev pub type_given : Values → Result DType Refusal
type_given v = placed (λ s. at_entry s 0) (dtype_of v.kind v.nullable)

-- the column that is handed in
abbrev pub given_column : Values → Result ColumnData Refusal
given_column v = followed (type_given v) (λ t. column t v)
