-- Worked rows of calls that copy a text or bytes, and so take memory: which types hold some, and which statistics, merges and combinations copy one.
use Rattle.std.proofs.Common.{refl}
use Rattle.std.specs.Prelude.{◌≡◌, Bool, true, false, List, [], ◌∷◌, Option, Some, None, map}
use Rattle.vortex_base.specs.declared.dtype.DType.{DType}
use Rattle.vortex_base.specs.declared.dtype.DType.TheVariants as dtype
use Rattle.vortex_base.specs.declared.scalar_value.ScalarValue.{ScalarValue}
use Rattle.vortex_base.specs.declared.scalar_value.ScalarValue.TheVariants as value
use Rattle.vortex_base.specs.declared.types.Element.TheVariants as element
use Rattle.vortex_base.specs.declared.types.Nullability.{Nullability}
use Rattle.vortex_base.specs.declared.types.Nullability.TheVariants.{Nullable, NonNullable}
use Rattle.vortex_base.specs.declared.types.PType.TheVariants.{U8, U16, U32, U64, I8, I16, I32, I64}
use Rattle.vortex_base.specs.Data.Columns.{ColumnData}
use Rattle.vortex_stats.specs.declared.precision.Precision.{Precision}
use Rattle.vortex_stats.specs.declared.precision.Precision.TheVariants.{Exact, Inexact, Absent}
use Rattle.vortex_stats.specs.declared.stat.Stat.{Stat}
use Rattle.vortex_stats.specs.declared.stat.Stat.TheVariants.{IsConstant, IsSorted, IsStrictSorted, Max, Min, Sum, NullCount, UncompressedSizeInBytes, NaNCount}
use Rattle.vortex_stats.specs.Copies.{combination_copies, entry_copies, holds_long, is_bound_copied, is_copied, merge_copies}
use Rattle.vortex_stats.specs.Measuring.Measured.{measuring_copies}
use Rattle.vortex_stats.specs.Merging.MergeRows.{i32, letter}

-- ---- the types whose columns hold texts or bytes: two of them, with null and without

abbrev types_with : Nullability → List DType
types_with n =
    dtype.Null ∷ dtype.Bool n ∷ dtype.Primitive U8 n ∷ dtype.Primitive U16 n ∷ dtype.Primitive U32 n ∷ dtype.Primitive U64 n
    ∷ dtype.Primitive I8 n ∷ dtype.Primitive I16 n ∷ dtype.Primitive I32 n ∷ dtype.Primitive I64 n
    ∷ dtype.Utf8 n ∷ dtype.Binary n
    ∷ dtype.MinMaxState element.Bool n ∷ dtype.MinMaxState (element.Primitive I32) n ∷ dtype.MinMaxState element.Utf8 n ∷ dtype.MinMaxState element.Binary n ∷ []

abbrev texts_and_bytes : List Bool
texts_and_bytes = false ∷ false ∷ false ∷ false ∷ false ∷ false ∷ false ∷ false ∷ false ∷ false ∷ true ∷ true ∷ false ∷ false ∷ false ∷ false ∷ []

long_types : map holds_long (types_with NonNullable) ≡ texts_and_bytes
long_types = refl

long_types_or_null : map holds_long (types_with Nullable) ≡ texts_and_bytes
long_types_or_null = refl

-- ---- a measure copies the greatest and the least text or bytes, where the column has one

abbrev statistics : List Stat
statistics = IsConstant ∷ IsSorted ∷ IsStrictSorted ∷ Max ∷ Min ∷ Sum ∷ NullCount ∷ UncompressedSizeInBytes ∷ NaNCount ∷ []

abbrev column : DType → List (Option ScalarValue) → ColumnData
column t vs = record { dtype = t; values = vs; size = 9 }

abbrev alone : DType → List (Option ScalarValue) → List Bool
alone t vs = map (λ s. measuring_copies (s ∷ []) (column t vs)) statistics

abbrev extremes : List Bool
extremes = false ∷ false ∷ false ∷ true ∷ true ∷ false ∷ false ∷ false ∷ false ∷ []

abbrev none : List Bool
none = false ∷ false ∷ false ∷ false ∷ false ∷ false ∷ false ∷ false ∷ false ∷ []

abbrev bytes : ScalarValue
bytes = value.Binary (1 ∷ [])

of_texts : alone (dtype.Utf8 Nullable) (Some (letter 98) ∷ None ∷ Some (letter 97) ∷ []) ≡ extremes
of_texts = refl

of_plain_texts : alone (dtype.Utf8 NonNullable) (Some (letter 98) ∷ []) ≡ extremes
of_plain_texts = refl

of_empty_texts : alone (dtype.Utf8 NonNullable) (Some (value.Utf8 []) ∷ []) ≡ extremes
of_empty_texts = refl

of_bytes : alone (dtype.Binary Nullable) (None ∷ Some bytes ∷ []) ≡ extremes
of_bytes = refl

of_plain_bytes : alone (dtype.Binary NonNullable) (Some bytes ∷ []) ≡ extremes
of_plain_bytes = refl

of_null_texts : alone (dtype.Utf8 Nullable) (None ∷ None ∷ []) ≡ none
of_null_texts = refl

of_no_texts : alone (dtype.Utf8 NonNullable) [] ≡ none
of_no_texts = refl

of_no_bytes : alone (dtype.Binary Nullable) (None ∷ []) ≡ none
of_no_bytes = refl

of_numbers : alone (dtype.Primitive I32 Nullable) (Some (i32 5) ∷ None ∷ Some (i32 6) ∷ []) ≡ none
of_numbers = refl

of_truths : alone (dtype.Bool NonNullable) (Some (value.Bool true) ∷ Some (value.Bool false) ∷ []) ≡ none
of_truths = refl

of_nulls : alone dtype.Null (None ∷ None ∷ []) ≡ none
of_nulls = refl

of_states : alone (dtype.MinMaxState element.Utf8 Nullable) (None ∷ []) ≡ none
of_states = refl

-- of several wanted statistics one copies, wherever it stands
abbrev two_texts : ColumnData
two_texts = column (dtype.Utf8 Nullable) (Some (letter 98) ∷ None ∷ Some (letter 97) ∷ [])

together : map (λ wanted. measuring_copies wanted two_texts)
    ([] ∷ (Sum ∷ NullCount ∷ IsConstant ∷ IsSorted ∷ IsStrictSorted ∷ UncompressedSizeInBytes ∷ NaNCount ∷ []) ∷ (NullCount ∷ Max ∷ []) ∷ (Max ∷ NullCount ∷ [])
    ∷ (IsSorted ∷ Sum ∷ Min ∷ []) ∷ (Max ∷ Max ∷ []) ∷ statistics ∷ []) ≡ false ∷ false ∷ true ∷ true ∷ true ∷ true ∷ true ∷ []
together = refl

numbers_together : measuring_copies statistics (column (dtype.Primitive I32 NonNullable) (Some (i32 5) ∷ [])) ≡ false
numbers_together = refl

-- ---- a value is copied in either case, where it is a text or bytes

copied_row : map is_copied (Exact (letter 97) ∷ Inexact (letter 97) ∷ Exact bytes ∷ Inexact bytes ∷ Exact (i32 5) ∷ Inexact (value.Bool true) ∷ Absent ∷ []) ≡ true ∷ true ∷ true ∷ true ∷ false ∷ false ∷ false ∷ []
copied_row = refl

-- ---- the bound of a merge is copied unless it is the left side's: another value, another case, a number, none

bound_row : is_bound_copied (Exact (letter 97)) (Some (Exact (letter 97))) ∷ is_bound_copied (Exact (letter 97)) (Some (Exact (letter 98)))
    ∷ is_bound_copied (Exact (letter 97)) (Some (Inexact (letter 97))) ∷ is_bound_copied (Inexact (letter 97)) (Some (Exact (letter 97))) ∷ is_bound_copied (Inexact bytes) (Some (Inexact bytes))
    ∷ is_bound_copied (Exact (i32 5)) (Some (Exact (i32 6))) ∷ is_bound_copied Absent (Some (Exact bytes)) ∷ is_bound_copied (Exact (letter 97)) (Some Absent) ∷ is_bound_copied (Exact (letter 97)) None ∷ []
    ≡ false ∷ true ∷ true ∷ true ∷ false ∷ false ∷ true ∷ false ∷ false ∷ []
bound_row = refl

abbrev Entries : Type 0
Entries = List (Stat × Precision ScalarValue)

abbrev one : Stat → Precision ScalarValue → Entries
one s p = (s, p) ∷ []

-- the right's is copied where it is the greater, or the lesser; none of one side alone
merge_row : merge_copies (one Max (Exact (letter 97))) (one Max (Exact (letter 98))) ∷ merge_copies (one Max (Exact (letter 98))) (one Max (Exact (letter 97)))
    ∷ merge_copies (one Min (Exact (letter 98))) (one Min (Exact (letter 97))) ∷ merge_copies (one Min (Exact (letter 97))) (one Min (Exact (letter 98)))
    ∷ merge_copies (one Max (Exact (i32 5))) (one Max (Exact (i32 6))) ∷ merge_copies [] [] ∷ []
    ≡ true ∷ false ∷ true ∷ false ∷ false ∷ false ∷ []
merge_row = refl

-- ---- an entry of the right set: the left has none, neither has one, the right has none, both meet, both conflict

entry_row : entry_copies Max Absent (Exact (letter 97)) ∷ entry_copies Max Absent Absent ∷ entry_copies Max (Exact (letter 97)) Absent ∷ entry_copies Max (Exact (letter 97)) (Exact (letter 97))
    ∷ entry_copies Max (Exact (letter 97)) (Exact (letter 98)) ∷ entry_copies Max Absent (Exact (i32 5)) ∷ entry_copies Max (Exact (i32 5)) (Exact (i32 5)) ∷ []
    ≡ true ∷ false ∷ false ∷ true ∷ false ∷ false ∷ false ∷ []
entry_row = refl

-- an entry before the first conflict counts, and one behind it doesn't
combination_row : map (combination_copies (one Max (Exact (letter 97)))) ([] ∷ one Min (Exact (letter 97)) ∷ one Max (Exact (letter 98))
    ∷ ((Min, Exact (letter 97)) ∷ (Max, Exact (letter 98)) ∷ []) ∷ ((Max, Exact (letter 98)) ∷ (Min, Exact (letter 97)) ∷ []) ∷ ((NullCount, Exact (i32 5)) ∷ (Min, Exact (letter 97)) ∷ []) ∷ [])
    ≡ false ∷ true ∷ false ∷ true ∷ false ∷ true ∷ []
combination_row = refl
