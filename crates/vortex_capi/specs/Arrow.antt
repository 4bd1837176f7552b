-- A column of values in Arrow's layout.
use Rattle.std.specs.Prelude.{ℕ, ◌+◌, ◌*◌, ◌/◌, ◌%◌, ◌^◌, ◌-◌, ◌==◌, ◌||◌, ◌&&◌, Bool, true, false, not, List, [], ◌∷◌, Option, None, Some, Result, Ok, Err, if◌then◌else◌, is_some, length, nat_le, nat_lt, slice_index}
use Rattle.std.specs.Int.{bit_at, div_ceil}
use Rattle.vortex_base.specs.declared.dtype.DType.{DType}
use Rattle.vortex_base.specs.declared.dtype.DType.TheVariants as dtype
use Rattle.vortex_base.specs.declared.types.PType.TheVariants as ptype
use Rattle.vortex_base.specs.declared.pvalue.PValue.{PValue}
use Rattle.vortex_base.specs.declared.pvalue.PValue.TheVariants as number
use Rattle.vortex_base.specs.declared.scalar_value.ScalarValue.{ScalarValue}
use Rattle.vortex_base.specs.declared.scalar_value.ScalarValue.TheVariants as value
use Rattle.vortex_base.specs.Data.Columns.{ColumnData}
use Rattle.vortex_capi.specs.declared.arrow.ArrowValues.{ArrowValues}
use Rattle.vortex_capi.specs.declared.fault.Refusal.{Refusal}
use Rattle.vortex_capi.specs.declared.status.Status.{Status}
use Rattle.vortex_capi.specs.declared.status.Status.TheVariants.{BadEnds, BadKind, BadLength}
use Rattle.vortex_capi.specs.Encoding.{number_at}
use Rattle.vortex_capi.specs.Given.{fixed, or_refused, part_of}
use Rattle.vortex_capi.specs.Measures.{measured_as}
use Rattle.vortex_capi.specs.Refusals.{all_read, followed, placed}
use Rattle.vortex_capi.specs.Slots.{Slot}
use Rattle.vortex_capi.specs.Statuses.{at_entry, at_row, nowhere}
use Rattle.vortex_capi.specs.Types.{dtype_of, number_width, width}
use Rattle.vortex_capi.specs.Values.{cell_by, column_of, read_of}

-- ---- buffers

-- bit i of a buffer, the lowest one of a byte first
abbrev pub bit_of : List ℕ → ℕ → Bool
bit_of bits i = bit_at (slice_index bits (i / 8)) (i % 8) == 1

-- a place is null where there is a bitmap whose bit for it is 0
abbrev pub is_null : List ℕ → ℕ → Bool
is_null [] i = false
is_null (b ∷ bs) i = not (bit_of (b ∷ bs) i)

abbrev pub whole : Option PValue → ℕ
whole (Some (number.U32 n)) = n
whole (Some (number.U64 n)) = n
whole n = 0

-- offset i of those of 4 or 8 bytes each
abbrev pub offset_at : (w : ℕ) → List ℕ → ℕ → ℕ
offset_at w offsets i = if w == 4 then whole (number_at ptype.U32 offsets i) else whole (number_at ptype.U64 offsets i)

-- the greatest offset, which is a signed number
abbrev pub last_offset : ℕ → ℕ
last_offset w = if w == 4 then 2 ^ 31 - 1 else 2 ^ 63 - 1

-- a text stands in the data
abbrev pub stands : (w : ℕ) → List ℕ → (from to : ℕ) → Bool
stands w heap from to = nat_le from to && (nat_le to (length heap) && nat_le to (last_offset w))

-- ---- the column

-- the value at a place of the buffers
abbrev pub value_at : DType → ArrowValues → ℕ → Result ScalarValue Status
value_at (dtype.Bool n) a i = Ok (value.Bool (bit_of a.values.now i))
value_at (dtype.Primitive p n) a i = read_of (dtype.Primitive p n) (or_refused BadLength (fixed a.values.now (number_width p) i))
value_at t a i =
    let at = offset_at a.offset_width a.offsets.now in
    read_of t (or_refused BadEnds (part_of a.values.now (at i) (at (i + 1))))

-- the optional value of a row, whose place is behind those that are left out; in a column of nulls each is null
abbrev pub cell : DType → ArrowValues → ℕ → Result (Option ScalarValue) Status
cell dtype.Null a row = Ok None
cell t a row = cell_by t (Ok (is_null a.validity.now (a.offset + row))) (value_at t a (a.offset + row))

-- the column of a type, of buffers that were looked at before
abbrev pub read_column : DType → ArrowValues → Result ColumnData Refusal
read_column t a = followed (all_read at_row (cell t a) a.rows) (column_of t a.size)

-- ---- what is refused before

-- a buffer has so many bits
abbrev pub has_bits : ℕ → List ℕ → Bool
has_bits n bits = nat_le (div_ceil n 8) (length bits)

-- there is no bitmap, or it has so many bits
abbrev pub has_marks : ℕ → List ℕ → Bool
has_marks n bits = length bits == 0 || has_bits n bits

-- the buffers of values have so many places; behind those of texts and bytes stands an offset more
abbrev pub has_values : DType → ArrowValues → ℕ → Bool
has_values dtype.Null a n = true
has_values (dtype.Bool m) a n = has_bits n a.values.now
has_values (dtype.Primitive p m) a n = nat_le (n * number_width p) (length a.values.now)
has_values t a n = is_some (fixed a.offsets.now a.offset_width n)

-- the buffers reach to the last row's place, which is a number of 64 bits; no rows need none
abbrev pub reach : DType → ArrowValues → Bool
reach t a = nat_lt (a.offset + a.rows) (2 ^ 64) && (a.rows == 0 || (has_marks (a.offset + a.rows) a.validity.now && has_values t a (a.offset + a.rows)))

-- in a column of nulls no buffer is looked at
abbrev pub are_filled : DType → ArrowValues → Bool
are_filled dtype.Null a = true
are_filled t a = reach t a

-- where the text of a row ends, whether it is null or not
abbrev pub end_at : ArrowValues → ℕ → Result ℕ Status
end_at a row =
    let at = offset_at a.offset_width a.offsets.now in
    if stands a.offset_width a.values.now (at (a.offset + row)) (at (a.offset + row + 1)) then Ok (at (a.offset + row + 1)) else Err BadEnds

-- where each of the texts ends, or the first that doesn't stand in the data; values of one width have no ends
abbrev pub ends_by : Option ℕ → ArrowValues → Result (List ℕ) Refusal
ends_by (Some w) a = Ok []
ends_by None a = all_read at_row (end_at a) a.rows

-- buffers that are too short are refused
abbrev pub filled : DType → ArrowValues → Result (Unit {0}) Refusal
filled t a = if are_filled t a then Ok tt else Err (nowhere BadLength)

-- and then texts that don't stand in the data
abbrev pub ends : DType → ArrowValues → Result (List ℕ) Refusal
ends t a = followed (filled t a) (λ u. ends_by (width t) a)

-- the column of a type
abbrev pub column : DType → ArrowValues → Result ColumnData Refusal
column t a = followed (ends t a) (λ es. read_column t a)

-- ---- the type

-- offsets take 4 or 8 bytes each, where the type has them
abbrev pub with_offsets : ℕ → DType → Option ℕ → Result DType Refusal
with_offsets w t (Some n) = Ok t
with_offsets w t None = if w == 4 || w == 8 then Ok t else Err (at_entry BadKind 0)

abbrev pub type_given : ArrowValues → Result DType Refusal
type_given a = followed (placed (λ s. at_entry s 0) (dtype_of a.kind a.nullable)) (λ t. with_offsets a.offset_width t (width t))

-- the column that is handed in
abbrev pub given_column : ArrowValues → Result ColumnData Refusal
given_column a = followed (type_given a) (λ t. column t a)

-- its statistics
abbrev pub measured : ArrowValues → List ℕ → Result (List Slot) Refusal
measured a numbers = followed (type_given a) (measured_as (λ t. column t a) numbers)
