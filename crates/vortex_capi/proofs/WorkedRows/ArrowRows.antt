-- Worked rows: columns in Arrow's layout, each case by computation.
use Rattle.std.proofs.Common.{◌≡◌, ℕ, List, [], ◌∷◌, Bor, None, Option, Some, Ok, Err, Result, true, false, map, refl}
use Rattle.std.specs.Str.{chars, is_utf8}
use Rattle.vortex_base.specs.declared.dtype.DType.TheVariants as dtype
use Rattle.vortex_base.specs.declared.types.Nullability.TheVariants.{Nullable}
use Rattle.vortex_base.specs.declared.types.PType.TheVariants as ptype
use Rattle.vortex_base.specs.declared.pvalue.PValue.TheVariants as number
use Rattle.vortex_base.specs.declared.scalar_value.ScalarValue.{ScalarValue}
use Rattle.vortex_base.specs.declared.scalar_value.ScalarValue.TheVariants as value
use Rattle.vortex_base.specs.Data.Columns.{ColumnData}
use Rattle.vortex_capi.specs.declared.arrow.ArrowValues.{ArrowValues}
use Rattle.vortex_capi.specs.declared.fault.Refusal.{Refusal}
use Rattle.vortex_capi.specs.declared.status.Status.TheVariants.{BadEnds, BadKind, BadLength, BadNull, BadValue}
use Rattle.vortex_capi.specs.Arrow.{bit_of, given_column, has_bits, is_null, last_offset, offset_at, stands, type_given}
use Rattle.vortex_capi.specs.ArrowArrays.{bytes_of, marks_of}
use Rattle.vortex_capi.specs.Statuses.{at_entry, at_row, nowhere}

abbrev lent : List ℕ → Bor (List ℕ)
lent xs = record { ref_ptr = (0, 0); now = xs }

-- ---- bits: the lowest of a byte first, then those of the next byte

bits_of_a_byte : map (bit_of (5 ∷ [])) (0 ∷ 1 ∷ 2 ∷ 3 ∷ 7 ∷ []) ≡ true ∷ false ∷ true ∷ false ∷ false ∷ []
bits_of_a_byte = refl

last_bit : bit_of (128 ∷ []) 7 ≡ true
last_bit = refl

bits_of_the_second_byte : map (bit_of (0 ∷ 129 ∷ [])) (7 ∷ 8 ∷ 9 ∷ 14 ∷ 15 ∷ []) ≡ false ∷ true ∷ false ∷ false ∷ true ∷ []
bits_of_the_second_byte = refl

a_bit_of_a_value : is_null (5 ∷ []) 2 ≡ false
a_bit_of_a_value = refl

no_bit : is_null (5 ∷ []) 1 ≡ true
no_bit = refl

no_bitmap : is_null [] 1 ≡ false
no_bitmap = refl

-- nine bits take two bytes, and no bits none
bits_and_bytes : has_bits 8 (0 ∷ []) ∷ has_bits 9 (0 ∷ []) ∷ has_bits 9 (0 ∷ 0 ∷ []) ∷ has_bits 0 [] ∷ [] ≡ true ∷ false ∷ true ∷ true ∷ []
bits_and_bytes = refl

-- ---- offsets: the lowest byte first, four or eight of them

four : List ℕ
four = 1 ∷ 0 ∷ 0 ∷ 0 ∷ 2 ∷ 3 ∷ 0 ∷ 0 ∷ []

second_of_4_bytes : offset_at 4 four 1 ≡ 770
unfolding four
second_of_4_bytes = refl

first_of_8_bytes : offset_at 8 (1 ∷ 2 ∷ 0 ∷ 0 ∷ 0 ∷ 0 ∷ 0 ∷ 0 ∷ []) 0 ≡ 513
first_of_8_bytes = refl

signed_offsets : last_offset 4 ∷ last_offset 8 ∷ [] ≡ 2147483647 ∷ 9223372036854775807 ∷ []
signed_offsets = refl

text_within : stands 4 (97 ∷ 98 ∷ []) 1 2 ≡ true
text_within = refl

text_without_bytes : stands 8 (97 ∷ 98 ∷ []) 2 2 ≡ true
text_without_bytes = refl

text_past_the_data : stands 4 (97 ∷ 98 ∷ []) 1 3 ≡ false
text_past_the_data = refl

text_that_descends : stands 8 (97 ∷ 98 ∷ []) 2 1 ≡ false
text_that_descends = refl

-- ---- columns of numbers: the places before the first row are left out, and a buffer may go on

abbrev numbers : (rows offset : ℕ) → (validity values : List ℕ) → ArrowValues
numbers rows offset validity values =
    record { kind = 3; nullable = 1; offset_width = 0; rows = rows; offset = offset; size = 4; validity = lent validity; values = lent values; offsets = lent [] }

abbrev of_numbers : List (Option ScalarValue) → Result ColumnData Refusal
of_numbers vs = Ok (record { dtype = dtype.Primitive ptype.U16 Nullable; values = vs; size = 4 })

abbrev wide : ℕ → Option ScalarValue
wide n = Some (value.Primitive (number.U16 n))

-- the bits of the three places are 0, 1 and 0
behind_a_place : given_column (numbers 2 1 (2 ∷ []) (9 ∷ 9 ∷ 1 ∷ 2 ∷ 3 ∷ 4 ∷ 0 ∷ 0 ∷ [])) ≡ of_numbers (wide 513 ∷ None ∷ [])
behind_a_place = refl

without_a_bitmap : given_column (numbers 2 1 [] (9 ∷ 9 ∷ 1 ∷ 2 ∷ 3 ∷ 4 ∷ [])) ≡ of_numbers (wide 513 ∷ wide 1027 ∷ [])
without_a_bitmap = refl

-- no rows need no buffers, wherever they begin
no_rows : given_column (numbers 0 9 [] []) ≡ of_numbers []
no_rows = refl

numbers_too_short : given_column (numbers 2 1 [] (9 ∷ 9 ∷ 1 ∷ 2 ∷ 3 ∷ [])) ≡ Err (nowhere BadLength)
numbers_too_short = refl

-- eight places have bits, and the first row is the seventh of them
bitmap_too_short : given_column (numbers 3 6 (255 ∷ []) (0 ∷ 0 ∷ 0 ∷ 0 ∷ 0 ∷ 0 ∷ 0 ∷ 0 ∷ 0 ∷ 0 ∷ 0 ∷ 0 ∷ 1 ∷ 0 ∷ 2 ∷ 0 ∷ 3 ∷ 0 ∷ [])) ≡ Err (nowhere BadLength)
bitmap_too_short = refl

null_refused : given_column (record (numbers 2 0 (1 ∷ []) (1 ∷ 2 ∷ 3 ∷ 4 ∷ [])) { nullable = 0 }) ≡ Err (at_row BadNull 1)
null_refused = refl

-- ---- columns of truths: a bit each, the first one not at the front of a byte

abbrev truths : (rows offset : ℕ) → (validity values : List ℕ) → ArrowValues
truths rows offset validity values = record (numbers rows offset validity values) { kind = 1 }

abbrev of_truths : List (Option ScalarValue) → Result ColumnData Refusal
of_truths vs = Ok (record { dtype = dtype.Bool Nullable; values = vs; size = 4 })

-- the bits from the seventh on: true, false, true, false
truths_over_bytes : given_column (truths 4 6 [] (64 ∷ 1 ∷ [])) ≡ of_truths (Some (value.Bool true) ∷ Some (value.Bool false) ∷ Some (value.Bool true) ∷ Some (value.Bool false) ∷ [])
truths_over_bytes = refl

-- the third is null, by the bits from the seventh on: 1, 1, 0, 1
truths_with_nulls : given_column (truths 4 6 (192 ∷ 2 ∷ []) (64 ∷ 1 ∷ [])) ≡ of_truths (Some (value.Bool true) ∷ Some (value.Bool false) ∷ None ∷ Some (value.Bool false) ∷ [])
truths_with_nulls = refl

truths_too_short : given_column (truths 4 6 [] (64 ∷ [])) ≡ Err (nowhere BadLength)
truths_too_short = refl

-- a column of nulls has no buffers
nulls_alone : given_column (record (numbers 2 5 [] []) { kind = 0 }) ≡ Ok (record { dtype = dtype.Null; values = None ∷ None ∷ []; size = 4 })
nulls_alone = refl

-- ---- columns of texts and bytes: between two offsets

abbrev texts : (kind width rows offset : ℕ) → (validity values offsets : List ℕ) → ArrowValues
texts kind width rows offset validity values offsets =
    record { kind = kind; nullable = 1; offset_width = width; rows = rows; offset = offset; size = 4; validity = lent validity; values = lent values; offsets = lent offsets }

abbrev of_texts : List (Option ScalarValue) → Result ColumnData Refusal
of_texts vs = Ok (record { dtype = dtype.Utf8 Nullable; values = vs; size = 4 })

abbrev of_bytes : List (Option ScalarValue) → Result ColumnData Refusal
of_bytes vs = Ok (record { dtype = dtype.Binary Nullable; values = vs; size = 4 })

abbrev heap : List ℕ
heap = 97 ∷ 255 ∷ 98 ∷ 99 ∷ 0 ∷ []

-- from 0 to 1, to 2, to 4
abbrev short : List ℕ
short = 0 ∷ 0 ∷ 0 ∷ 0 ∷ 1 ∷ 0 ∷ 0 ∷ 0 ∷ 2 ∷ 0 ∷ 0 ∷ 0 ∷ 4 ∷ 0 ∷ 0 ∷ 0 ∷ []

-- from 1 to 2, to 4
abbrev long : List ℕ
long = 1 ∷ 0 ∷ 0 ∷ 0 ∷ 0 ∷ 0 ∷ 0 ∷ 0 ∷ 2 ∷ 0 ∷ 0 ∷ 0 ∷ 0 ∷ 0 ∷ 0 ∷ 0 ∷ 4 ∷ 0 ∷ 0 ∷ 0 ∷ 0 ∷ 0 ∷ 0 ∷ 0 ∷ []

-- the byte below the null row is no text
short_texts : given_column (texts 10 4 3 0 (5 ∷ []) heap short) ≡ of_texts (Some (value.Utf8 (97 ∷ [])) ∷ None ∷ Some (value.Utf8 (98 ∷ 99 ∷ [])) ∷ [])
unfolding is_utf8 chars lib.Utf8.encode
short_texts = refl

texts_behind_a_place : given_column (texts 10 4 1 2 [] heap short) ≡ of_texts (Some (value.Utf8 (98 ∷ 99 ∷ [])) ∷ [])
unfolding is_utf8 chars lib.Utf8.encode
texts_behind_a_place = refl

long_bytes : given_column (texts 11 8 2 0 [] heap long) ≡ of_bytes (Some (value.Binary (255 ∷ [])) ∷ Some (value.Binary (98 ∷ 99 ∷ [])) ∷ [])
long_bytes = refl

no_text : given_column (texts 10 8 2 0 (3 ∷ []) heap long) ≡ Err (at_row BadValue 0)
unfolding is_utf8 chars lib.Utf8.encode
no_text = refl

an_offset_less : given_column (texts 11 4 3 1 [] heap short) ≡ Err (nowhere BadLength)
an_offset_less = refl

no_rows_of_texts : given_column (texts 10 4 0 0 [] [] []) ≡ of_texts []
no_rows_of_texts = refl

-- the second text ends past the data, though it is null, and before a text that isn't UTF-8 is told
past_the_data : given_column (texts 10 4 2 0 (1 ∷ []) (255 ∷ []) (0 ∷ 0 ∷ 0 ∷ 0 ∷ 1 ∷ 0 ∷ 0 ∷ 0 ∷ 2 ∷ 0 ∷ 0 ∷ 0 ∷ [])) ≡ Err (at_row BadEnds 1)
past_the_data = refl

descending : given_column (texts 11 4 2 0 [] heap (0 ∷ 0 ∷ 0 ∷ 0 ∷ 2 ∷ 0 ∷ 0 ∷ 0 ∷ 1 ∷ 0 ∷ 0 ∷ 0 ∷ [])) ≡ Err (at_row BadEnds 1)
descending = refl

no_width : type_given (texts 10 5 2 0 [] heap short) ≡ Err (at_entry BadKind 0)
no_width = refl

width_of_numbers : type_given (texts 9 5 2 0 [] heap short) ≡ Ok (dtype.Primitive ptype.I64 Nullable)
width_of_numbers = refl

no_kind : type_given (texts 17 4 2 0 [] heap short) ≡ Err (at_entry BadKind 0)
no_kind = refl

-- ---- the arrays that are read out of buffers

marks_behind_a_place : marks_of (5 ∷ []) 1 3 ≡ 1 ∷ 0 ∷ 1 ∷ []
marks_behind_a_place = refl

no_marks : marks_of [] 1 3 ≡ []
no_marks = refl

bytes_over_two : bytes_of 7 9 (128 ∷ 2 ∷ []) 7 3 ≡ 7 ∷ 9 ∷ 7 ∷ []
bytes_over_two = refl
