-- Worked rows: arrays of as many elements as there are rows or zones, and of one more and one less, each by computation.
use Rattle.std.proofs.Common.{◌≡◌, ℕ, List, [], ◌∷◌, Some, Ok, Err, Result, true, false, length, refl}
use Rattle.vortex_base.specs.Data.Columns.{ColumnData}
use Rattle.vortex_base.specs.declared.dtype.DType.{DType}
use Rattle.vortex_base.specs.declared.dtype.DType.TheVariants as dtype
use Rattle.vortex_base.specs.declared.types.Nullability.TheVariants.{Nullable}
use Rattle.vortex_base.specs.declared.types.PType.TheVariants as ptype
use Rattle.vortex_base.specs.declared.pvalue.PValue.TheVariants as number
use Rattle.vortex_base.specs.declared.scalar_value.ScalarValue.TheVariants as value
use Rattle.vortex_stats.specs.declared.precision.Precision.TheVariants.{Exact}
use Rattle.vortex_stats.specs.declared.stat.Stat.TheVariants as stat
use Rattle.vortex_capi.specs.Checks.{ChecksZone, IsRefusedAs, told_entry}
use Rattle.vortex_capi.specs.declared.fault.Refusal.{Refusal}
use Rattle.vortex_capi.specs.declared.statistic.Statistic.{Statistic}
use Rattle.vortex_capi.specs.declared.status.Status.TheVariants.{BadLength, BadStat, Untrue}
use Rattle.vortex_capi.specs.declared.values.Values.{Values}
use Rattle.vortex_capi.specs.Given.{fill}
use Rattle.vortex_capi.specs.Merges.{filled, merged}
use Rattle.vortex_capi.specs.Statistics.{fills}
use Rattle.vortex_capi.specs.Statuses.{at_entry, in_column, nowhere}
use Rattle.vortex_capi.specs.Tables.{sources_given}
use Rattle.vortex_capi.specs.Values.{are_filled, given_column}
use Rattle.vortex_capi.proofs.WorkedRows.TableRows.{byte, lent, told}

-- ---- values of one width

abbrev four : List ℕ
four = 1 ∷ 2 ∷ 3 ∷ 4 ∷ []

two_numbers : fill (dtype.Primitive ptype.U16 Nullable) 2 four [] ≡ true
two_numbers = refl

a_byte_more : fill (dtype.Primitive ptype.U16 Nullable) 2 (0 ∷ four) [] ≡ false
a_byte_more = refl

a_byte_less : fill (dtype.Primitive ptype.U16 Nullable) 2 (1 ∷ 2 ∷ 3 ∷ []) [] ≡ false
a_byte_less = refl

numbers_with_ends : fill (dtype.Primitive ptype.U16 Nullable) 2 four (2 ∷ 4 ∷ []) ≡ false
numbers_with_ends = refl

nulls_alone : fill dtype.Null 9 [] [] ≡ true
nulls_alone = refl

nulls_with_values : fill dtype.Null 9 (1 ∷ []) [] ≡ false
nulls_with_values = refl

-- ---- texts: an end for each, and a heap that may go on

two_texts : fill (dtype.Utf8 Nullable) 2 four (1 ∷ 4 ∷ []) ≡ true
two_texts = refl

heap_goes_on : fill (dtype.Utf8 Nullable) 2 four (1 ∷ 2 ∷ []) ≡ true
heap_goes_on = refl

an_end_more : fill (dtype.Utf8 Nullable) 2 four (1 ∷ 2 ∷ 4 ∷ []) ≡ false
an_end_more = refl

an_end_less : fill (dtype.Binary Nullable) 2 four (4 ∷ []) ≡ false
an_end_less = refl

-- ---- columns: no bytes for null, as many as rows, one more and one less

abbrev three : List ℕ → List ℕ → Values
three values nulls = record { kind = 2; nullable = 1; rows = 3; size = 3; start = 0; values = lent values; ends = lent []; nulls = lent nulls }

abbrev nullable_byte : DType
nullable_byte = dtype.Primitive ptype.U8 Nullable

no_marks : are_filled nullable_byte (three (5 ∷ 6 ∷ 7 ∷ []) []) ≡ true
no_marks = refl

a_mark_each : are_filled nullable_byte (three (5 ∷ 6 ∷ 7 ∷ []) (0 ∷ 1 ∷ 0 ∷ [])) ≡ true
a_mark_each = refl

a_mark_more : are_filled nullable_byte (three (5 ∷ 6 ∷ 7 ∷ []) (0 ∷ 1 ∷ 0 ∷ 0 ∷ [])) ≡ false
a_mark_more = refl

a_mark_less : are_filled nullable_byte (three (5 ∷ 6 ∷ 7 ∷ []) (0 ∷ 1 ∷ [])) ≡ false
a_mark_less = refl

a_value_more : are_filled nullable_byte (three (5 ∷ 6 ∷ 7 ∷ 8 ∷ []) []) ≡ false
a_value_more = refl

longer_column : given_column (three (5 ∷ 6 ∷ 7 ∷ 8 ∷ []) []) ≡ Err (nowhere BadLength)
longer_column = refl

-- ---- statistics of two zones

two_zones : fills nullable_byte 2 (told 0 3 (1 ∷ 1 ∷ []) (5 ∷ 7 ∷ [])) ≡ true
two_zones = refl

more_values : fills nullable_byte 2 (told 0 3 (1 ∷ 1 ∷ []) (5 ∷ 7 ∷ 8 ∷ [])) ≡ false
more_values = refl

more_known : fills nullable_byte 2 (told 0 3 (1 ∷ 1 ∷ 1 ∷ []) (5 ∷ 7 ∷ [])) ≡ false
more_known = refl

-- a null count has 8 bytes in each zone, whatever the column's width
counts_are_wide : fills nullable_byte 1 (told 0 6 (1 ∷ []) (2 ∷ 0 ∷ 0 ∷ 0 ∷ 0 ∷ 0 ∷ 0 ∷ 0 ∷ [])) ≡ true
counts_are_wide = refl

no_such_stat : fills (dtype.Utf8 Nullable) 1 (told 0 5 (0 ∷ []) []) ≡ false
no_such_stat = refl

-- the first statistic of a table whose arrays are longer or shorter
longer_source : sources_given (byte 97 true ∷ []) 1 (told 0 3 (1 ∷ []) (5 ∷ []) ∷ told 0 4 (1 ∷ []) (5 ∷ 6 ∷ []) ∷ []) ≡ Err (at_entry BadLength 1)
longer_source = refl

stat_before_length : sources_given (byte 97 true ∷ []) 1 (told 0 8 (1 ∷ 1 ∷ []) [] ∷ []) ≡ Err (at_entry BadStat 0)
stat_before_length = refl

left_longer : merged 2 0 1 (told 0 3 (1 ∷ 1 ∷ []) (5 ∷ 7 ∷ []) ∷ []) (told 0 3 (1 ∷ 1 ∷ []) (6 ∷ 4 ∷ []) ∷ []) ≡ Err (in_column 0 0 BadLength 0)
left_longer = refl

right_longer : merged 2 0 1 (told 0 3 (1 ∷ []) (5 ∷ []) ∷ []) (told 0 3 (1 ∷ []) (6 ∷ 4 ∷ []) ∷ []) ≡ Err (in_column 0 1 BadLength 0)
right_longer = refl

longer_of_no_zones : filled 0 nullable_byte 0 (told 0 3 [] [] ∷ told 0 4 (1 ∷ []) (5 ∷ []) ∷ []) ≡ Err (in_column 0 0 BadLength 1)
longer_of_no_zones = refl

-- ---- checks

second_zone : told_entry nullable_byte 1 (told 0 3 (1 ∷ 1 ∷ []) (5 ∷ 7 ∷ [])) ≡ Ok (stat.Max, Exact (value.Primitive (number.U8 7)))
second_zone = refl

unlike_arrays : told_entry nullable_byte 0 (told 0 3 (1 ∷ 1 ∷ []) (5 ∷ [])) ≡ Err BadLength
unlike_arrays = refl

abbrev two_rows : ColumnData
two_rows = record { dtype = nullable_byte; values = Some (value.Primitive (number.U8 5)) ∷ Some (value.Primitive (number.U8 7)) ∷ []; size = 2 }

-- a zone of three rows is untrue of two, at the place behind the statistics
other_rows : (xs : List Statistic) (r : Result (Unit {0}) Refusal) → ChecksZone two_rows 3 0 xs r → IsRefusedAs (at_entry Untrue (length xs)) r
other_rows xs r h = h.other (λ same. absurd cc)
