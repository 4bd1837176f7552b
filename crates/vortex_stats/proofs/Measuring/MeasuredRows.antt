-- Worked rows of what is measured of a column, found by computation alone.
use Rattle.std.proofs.Common.{◌≡◌, ℕ, ◌-◌, ◌^◌, Bool, true, false, List, [], ◌∷◌, Option, Some, None, refl}
use Rattle.std.specs.Prelude.{ℤ, pos, negsuc, codes}
use Rattle.vortex_base.specs.declared.dtype.DType.{DType}
use Rattle.vortex_base.specs.declared.dtype.DType.TheVariants as dtype
use Rattle.vortex_base.specs.declared.types.Element.TheVariants as element
use Rattle.vortex_base.specs.declared.types.Nullability.TheVariants.{Nullable, NonNullable}
use Rattle.vortex_base.specs.declared.types.PType.TheVariants as ptype
use Rattle.vortex_base.specs.declared.pvalue.PValue.TheVariants as number
use Rattle.vortex_base.specs.declared.scalar_value.ScalarValue.{ScalarValue}
use Rattle.vortex_base.specs.declared.scalar_value.ScalarValue.TheVariants as value
use Rattle.vortex_base.specs.Data.Columns.{ColumnData}
use Rattle.vortex_stats.specs.declared.stat.Stat.{Stat}
use Rattle.vortex_stats.specs.declared.stat.Stat.TheVariants.{IsConstant, IsSorted, IsStrictSorted, Max, Min, Sum, NullCount, UncompressedSizeInBytes, NaNCount}
use Rattle.vortex_stats.specs.declared.precision.Precision.{Precision}
use Rattle.vortex_stats.specs.declared.precision.Precision.TheVariants.{Exact}
use Rattle.vortex_stats.specs.Sets.Claims.{count_value}
use Rattle.vortex_stats.specs.Stat.{all_stats}
use Rattle.vortex_stats.specs.Measuring.Measured.{each_once, measured}

-- ---- short names

abbrev Entries : Type 0
Entries = List (Stat × Precision ScalarValue)

abbrev ints : List (Option ScalarValue) → ColumnData
ints xs = record { dtype = dtype.Primitive ptype.I32 Nullable; values = xs; size = 12 }

abbrev longs : List (Option ScalarValue) → ColumnData
longs xs = record { dtype = dtype.Primitive ptype.I64 Nullable; values = xs; size = 0 }

abbrev words : List (Option ScalarValue) → ColumnData
words xs = record { dtype = dtype.Primitive ptype.U64 NonNullable; values = xs; size = 0 }

abbrev int : ℤ → ScalarValue
int n = value.Primitive (number.I32 n)

abbrev i64 : ℤ → ScalarValue
i64 n = value.Primitive (number.I64 n)

abbrev u64 : ℕ → ScalarValue
u64 n = value.Primitive (number.U64 n)

abbrev some_int : ℕ → Option ScalarValue
some_int n = Some (int (pos n))

abbrev i64s : ℤ → Option ScalarValue
i64s n = Some (i64 n)

abbrev u64s : ℕ → Option ScalarValue
u64s n = Some (u64 n)

abbrev tell : Stat → Bool → Stat × Precision ScalarValue
tell s b = (s, Exact (value.Bool b))

abbrev count : Stat → ℕ → Stat × Precision ScalarValue
count s n = (s, Exact (count_value n))

-- the entries of a column of I32, but for Max, Min and the size
abbrev extremes : ScalarValue → ScalarValue → Entries → Entries
extremes max min es = (Max, Exact max) ∷ (Min, Exact min) ∷ es

-- all statistics: three truths, what follows them, the sum, the nulls and the size
abbrev orders : (constant sorted strict : Bool) → Entries → Entries
orders c s t es = tell IsConstant c ∷ tell IsSorted s ∷ tell IsStrictSorted t ∷ es

abbrev ends : (sum : ℤ) (nulls : ℕ) → Entries
ends n k = (Sum, Exact (i64 n)) ∷ count NullCount k ∷ count UncompressedSizeInBytes 12 ∷ []

-- ---- whole numbers, with nulls at each place

no_rows : measured all_stats (ints []) ≡ orders true true true (ends (pos 0) 0)
unfolding all_stats
no_rows = refl

one : measured all_stats (ints (some_int 5 ∷ [])) ≡ orders true true true (extremes (int (pos 5)) (int (pos 5)) (ends (pos 5) 0))
unfolding all_stats
one = refl

two_equal : measured all_stats (ints (some_int 5 ∷ some_int 5 ∷ [])) ≡ orders true true false (extremes (int (pos 5)) (int (pos 5)) (ends (pos 10) 0))
unfolding all_stats
two_equal = refl

ascending : measured all_stats (ints (some_int 3 ∷ some_int 5 ∷ [])) ≡ orders false true true (extremes (int (pos 5)) (int (pos 3)) (ends (pos 8) 0))
unfolding all_stats
ascending = refl

descending : measured all_stats (ints (some_int 5 ∷ some_int 3 ∷ [])) ≡ orders false false false (extremes (int (pos 5)) (int (pos 3)) (ends (pos 8) 0))
unfolding all_stats
descending = refl

ascending_to_a_tie : measured all_stats (ints (some_int 3 ∷ some_int 5 ∷ some_int 5 ∷ [])) ≡ orders false true false (extremes (int (pos 5)) (int (pos 3)) (ends (pos 13) 0))
unfolding all_stats
ascending_to_a_tie = refl

falling_at_last : measured all_stats (ints (some_int 4 ∷ some_int 5 ∷ some_int 3 ∷ [])) ≡ orders false false false (extremes (int (pos 5)) (int (pos 3)) (ends (pos 12) 0))
unfolding all_stats
falling_at_last = refl

null_first : measured all_stats (ints (None ∷ some_int 3 ∷ some_int 5 ∷ [])) ≡ orders false true true (extremes (int (pos 5)) (int (pos 3)) (ends (pos 8) 1))
unfolding all_stats
null_first = refl

null_in_the_middle : measured all_stats (ints (some_int 5 ∷ None ∷ some_int 3 ∷ [])) ≡ orders false false false (extremes (int (pos 5)) (int (pos 3)) (ends (pos 8) 1))
unfolding all_stats
null_in_the_middle = refl

null_last : measured all_stats (ints (some_int 3 ∷ some_int 5 ∷ None ∷ [])) ≡ orders false true true (extremes (int (pos 5)) (int (pos 3)) (ends (pos 8) 1))
unfolding all_stats
null_last = refl

nulls_around_a_tie : measured all_stats (ints (None ∷ some_int 5 ∷ None ∷ some_int 5 ∷ None ∷ [])) ≡ orders false true false (extremes (int (pos 5)) (int (pos 5)) (ends (pos 10) 3))
unfolding all_stats
nulls_around_a_tie = refl

a_null_and_a_value : measured all_stats (ints (None ∷ some_int 5 ∷ [])) ≡ orders false true true (extremes (int (pos 5)) (int (pos 5)) (ends (pos 5) 1))
unfolding all_stats
a_null_and_a_value = refl

a_value_and_a_null : measured all_stats (ints (some_int 5 ∷ None ∷ [])) ≡ orders false true true (extremes (int (pos 5)) (int (pos 5)) (ends (pos 5) 1))
unfolding all_stats
a_value_and_a_null = refl

all_null : measured all_stats (ints (None ∷ None ∷ [])) ≡ orders true true true (ends (pos 0) 2)
unfolding all_stats
all_null = refl

below_zero : measured all_stats (ints (some_int 0 ∷ Some (int (negsuc 4)) ∷ [])) ≡ orders false false false (extremes (int (pos 0)) (int (negsuc 4)) (ends (negsuc 4) 0))
unfolding all_stats
below_zero = refl

-- ---- the ends of the types of numbers

abbrev picked : List Stat
picked = Max ∷ Min ∷ Sum ∷ []

abbrev one_type : ScalarValue → ScalarValue → ScalarValue → Entries
one_type max min sum = extremes max min ((Sum, Exact sum) ∷ [])

ends_of_i8 : measured picked (record { dtype = dtype.Primitive ptype.I8 NonNullable; values = Some (value.Primitive (number.I8 (pos 127))) ∷ Some (value.Primitive (number.I8 (negsuc 127))) ∷ []; size = 2 })
    ≡ one_type (value.Primitive (number.I8 (pos 127))) (value.Primitive (number.I8 (negsuc 127))) (i64 (negsuc 0))
ends_of_i8 = refl

ends_of_i16 : measured picked (record { dtype = dtype.Primitive ptype.I16 NonNullable; values = Some (value.Primitive (number.I16 (negsuc 32767))) ∷ Some (value.Primitive (number.I16 (pos 32767))) ∷ []; size = 4 })
    ≡ one_type (value.Primitive (number.I16 (pos 32767))) (value.Primitive (number.I16 (negsuc 32767))) (i64 (negsuc 0))
ends_of_i16 = refl

ends_of_u8 : measured picked (record { dtype = dtype.Primitive ptype.U8 NonNullable; values = Some (value.Primitive (number.U8 0)) ∷ Some (value.Primitive (number.U8 255)) ∷ Some (value.Primitive (number.U8 255)) ∷ []; size = 3 })
    ≡ one_type (value.Primitive (number.U8 255)) (value.Primitive (number.U8 0)) (u64 510)
ends_of_u8 = refl

ends_of_u16 : measured picked (record { dtype = dtype.Primitive ptype.U16 NonNullable; values = Some (value.Primitive (number.U16 65535)) ∷ Some (value.Primitive (number.U16 0)) ∷ []; size = 4 })
    ≡ one_type (value.Primitive (number.U16 65535)) (value.Primitive (number.U16 0)) (u64 65535)
ends_of_u16 = refl

ends_of_u32 : measured picked (record { dtype = dtype.Primitive ptype.U32 NonNullable; values = Some (value.Primitive (number.U32 (2 ^ 32 - 1))) ∷ Some (value.Primitive (number.U32 0)) ∷ []; size = 4 })
    ≡ one_type (value.Primitive (number.U32 (2 ^ 32 - 1))) (value.Primitive (number.U32 0)) (u64 (2 ^ 32 - 1))
ends_of_u32 = refl

-- ---- sums that stay in their type, and sums that leave it

sum_up_to_the_greatest_i64 : measured picked (longs (i64s (pos (2 ^ 63 - 2)) ∷ None ∷ i64s (pos 1) ∷ [])) ≡ one_type (i64 (pos (2 ^ 63 - 2))) (i64 (pos 1)) (i64 (pos (2 ^ 63 - 1)))
sum_up_to_the_greatest_i64 = refl

sum_past_the_greatest_i64 : measured picked (longs (i64s (pos (2 ^ 63 - 1)) ∷ i64s (pos 1) ∷ [])) ≡ extremes (i64 (pos (2 ^ 63 - 1))) (i64 (pos 1)) []
sum_past_the_greatest_i64 = refl

sum_down_to_the_least_i64 : measured picked (longs (i64s (negsuc (2 ^ 63 - 2)) ∷ i64s (negsuc 0) ∷ [])) ≡ one_type (i64 (negsuc 0)) (i64 (negsuc (2 ^ 63 - 2))) (i64 (negsuc (2 ^ 63 - 1)))
sum_down_to_the_least_i64 = refl

sum_past_the_least_i64 : measured picked (longs (i64s (negsuc (2 ^ 63 - 1)) ∷ i64s (negsuc 0) ∷ [])) ≡ extremes (i64 (negsuc 0)) (i64 (negsuc (2 ^ 63 - 1))) []
sum_past_the_least_i64 = refl

-- it is the whole sum that counts, and not what it is on the way
sum_that_comes_back : measured picked (longs (i64s (pos (2 ^ 63 - 1)) ∷ i64s (pos 1) ∷ i64s (negsuc 1) ∷ [])) ≡ one_type (i64 (pos (2 ^ 63 - 1))) (i64 (negsuc 1)) (i64 (pos (2 ^ 63 - 2)))
sum_that_comes_back = refl

sum_up_to_the_greatest_u64 : measured picked (words (u64s (2 ^ 64 - 2) ∷ u64s 1 ∷ [])) ≡ one_type (u64 (2 ^ 64 - 2)) (u64 1) (u64 (2 ^ 64 - 1))
sum_up_to_the_greatest_u64 = refl

sum_past_the_greatest_u64 : measured picked (words (u64s (2 ^ 64 - 1) ∷ u64s 1 ∷ [])) ≡ extremes (u64 (2 ^ 64 - 1)) (u64 1) []
sum_past_the_greatest_u64 = refl

sum_of_the_least_u64 : measured picked (words (u64s 0 ∷ [])) ≡ one_type (u64 0) (u64 0) (u64 0)
sum_of_the_least_u64 = refl

sum_of_i32_past_i32 : measured (Sum ∷ []) (ints (some_int (2 ^ 31 - 1) ∷ some_int (2 ^ 31 - 1) ∷ [])) ≡ (Sum, Exact (i64 (pos (2 ^ 32 - 2)))) ∷ []
sum_of_i32_past_i32 = refl

-- ---- truths, texts and bytes

truths : measured all_stats (record { dtype = dtype.Bool Nullable; values = Some (value.Bool false) ∷ None ∷ Some (value.Bool true) ∷ Some (value.Bool true) ∷ []; size = 1 })
    ≡ orders false true false (extremes (value.Bool true) (value.Bool false) ((Sum, Exact (u64 2)) ∷ count NullCount 1 ∷ count UncompressedSizeInBytes 1 ∷ []))
unfolding all_stats
truths = refl

abbrev texts : List (Option ScalarValue) → ColumnData
texts xs = record { dtype = dtype.Utf8 Nullable; values = xs; size = 9 }

abbrev text : List ℕ → ScalarValue
text bs = value.Utf8 bs

-- texts and bytes have no sum
abbrev unsummed : (nulls : ℕ) → Entries
unsummed k = count NullCount k ∷ count UncompressedSizeInBytes 9 ∷ []

no_texts : measured all_stats (texts []) ≡ orders true true true (unsummed 0)
unfolding all_stats
no_texts = refl

the_empty_text : measured all_stats (texts (Some (text []) ∷ None ∷ [])) ≡ orders false true true (extremes (text []) (text []) (unsummed 1))
unfolding all_stats
the_empty_text = refl

-- a beginning stands below what it begins, capitals below small letters
texts_by_length : measured all_stats (texts (Some (text (codes "ab")) ∷ Some (text (codes "a")) ∷ Some (text (codes "Z")) ∷ [])) ≡ orders false false false (extremes (text (codes "ab")) (text (codes "Z")) (unsummed 0))
unfolding all_stats
texts_by_length = refl

-- U+007A, U+00E9, U+FF5E and U+1F600: by bytes as by characters, while UTF-16 has the last below the third
texts_by_bytes : measured all_stats (texts (Some (text (122 ∷ [])) ∷ Some (text (195 ∷ 169 ∷ [])) ∷ Some (text (239 ∷ 189 ∷ 158 ∷ [])) ∷ Some (text (240 ∷ 159 ∷ 152 ∷ 128 ∷ [])) ∷ []))
    ≡ orders false true true (extremes (text (240 ∷ 159 ∷ 152 ∷ 128 ∷ [])) (text (122 ∷ [])) (unsummed 0))
unfolding all_stats
texts_by_bytes = refl

equal_texts : measured all_stats (texts (Some (text (codes "a")) ∷ Some (text (codes "a")) ∷ [])) ≡ orders true true false (extremes (text (codes "a")) (text (codes "a")) (unsummed 0))
unfolding all_stats
equal_texts = refl

bytes : measured all_stats (record { dtype = dtype.Binary NonNullable; values = Some (value.Binary (255 ∷ [])) ∷ Some (value.Binary (0 ∷ 1 ∷ [])) ∷ []; size = 9 })
    ≡ orders false false false (extremes (value.Binary (255 ∷ [])) (value.Binary (0 ∷ 1 ∷ [])) (unsummed 0))
unfolding all_stats
bytes = refl

-- ---- types without values

nulls_of_null : measured all_stats (record { dtype = dtype.Null; values = None ∷ None ∷ []; size = 9 }) ≡ orders true true true (unsummed 2)
unfolding all_stats
nulls_of_null = refl

nulls_of_a_state : measured all_stats (record { dtype = dtype.MinMaxState element.Bool Nullable; values = None ∷ []; size = 9 }) ≡ orders true true true (unsummed 1)
unfolding all_stats
nulls_of_a_state = refl

-- ---- which are wanted

none_wanted : measured [] (ints (some_int 5 ∷ [])) ≡ []
none_wanted = refl

in_the_order_wanted : measured (Sum ∷ NaNCount ∷ Min ∷ Max ∷ []) (ints (some_int 5 ∷ some_int 3 ∷ [])) ≡ (Sum, Exact (i64 (pos 8))) ∷ (Min, Exact (int (pos 3))) ∷ (Max, Exact (int (pos 5))) ∷ []
in_the_order_wanted = refl

wanted_twice : measured (Min ∷ Max ∷ Min ∷ Min ∷ NullCount ∷ Max ∷ []) (ints (some_int 5 ∷ None ∷ [])) ≡ (Min, Exact (int (pos 5))) ∷ (Max, Exact (int (pos 5))) ∷ count NullCount 1 ∷ []
wanted_twice = refl

each_stands_once : each_once (Min ∷ Max ∷ Min ∷ Sum ∷ Max ∷ Min ∷ []) ≡ Min ∷ Max ∷ Sum ∷ []
each_stands_once = refl

unsupported_twice : measured (Sum ∷ NaNCount ∷ Sum ∷ []) (texts (Some (text []) ∷ [])) ≡ []
unsupported_twice = refl

size_of_2_64 : measured (UncompressedSizeInBytes ∷ []) (record { dtype = dtype.Null; values = []; size = 2 ^ 64 }) ≡ []
size_of_2_64 = refl

size_below_2_64 : measured (UncompressedSizeInBytes ∷ []) (record { dtype = dtype.Null; values = []; size = 2 ^ 64 - 1 }) ≡ count UncompressedSizeInBytes (2 ^ 64 - 1) ∷ []
size_below_2_64 = refl
