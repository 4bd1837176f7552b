-- Worked rows of the table of the statistics: their names, their types and their aggregates.
use Rattle.std.proofs.Common.{refl}
use Rattle.std.specs.Prelude.{◌≡◌, List, [], ◌∷◌, Option, Some, None, codes, map}
use Rattle.vortex_base.specs.declared.aggregate.AggregateFnRef.TheVariants as aggregate
use Rattle.vortex_base.specs.declared.dtype.DType.{DType}
use Rattle.vortex_base.specs.declared.dtype.DType.TheVariants as dtype
use Rattle.vortex_base.specs.declared.types.Nullability.TheVariants.{Nullable, NonNullable}
use Rattle.vortex_base.specs.declared.types.PType.TheVariants as ptype
use Rattle.vortex_stats.specs.declared.stat.Stat.{Stat}
use Rattle.vortex_stats.specs.declared.stat.Stat.TheVariants.{IsConstant, IsSorted, IsStrictSorted, Max, Min, Sum, NullCount, UncompressedSizeInBytes, NaNCount}
use Rattle.vortex_stats.specs.Stat.{aggregate_stat, stat_aggregate, stat_dtype, stat_name, stat_number}

abbrev statistics : List Stat
statistics = IsConstant ∷ IsSorted ∷ IsStrictSorted ∷ Max ∷ Min ∷ Sum ∷ NullCount ∷ UncompressedSizeInBytes ∷ NaNCount ∷ []

numbers : map stat_number statistics ≡ 0 ∷ 1 ∷ 2 ∷ 3 ∷ 4 ∷ 5 ∷ 6 ∷ 7 ∷ 8 ∷ []
numbers = refl

names : map stat_name statistics ≡ codes "is_constant" ∷ codes "is_sorted" ∷ codes "is_strict_sorted" ∷ codes "max" ∷ codes "min" ∷ codes "sum"
    ∷ codes "null_count" ∷ codes "uncompressed_size_in_bytes" ∷ codes "nan_count" ∷ []
names = refl

-- ---- types: in a column without a value, of truths, of numbers with and without null, of texts and of bytes

abbrev i32_or_null : DType
i32_or_null = dtype.Primitive ptype.I32 Nullable

abbrev u8 : DType
u8 = dtype.Primitive ptype.U8 NonNullable

abbrev columns : List DType
columns = dtype.Null ∷ dtype.Bool Nullable ∷ i32_or_null ∷ u8 ∷ dtype.Utf8 NonNullable ∷ dtype.Binary Nullable ∷ []

abbrev types : Stat → List (Option DType)
types s = map (stat_dtype s) columns

abbrev always : DType → List (Option DType)
always t = Some t ∷ Some t ∷ Some t ∷ Some t ∷ Some t ∷ Some t ∷ []

abbrev truth : DType
truth = dtype.Bool NonNullable

abbrev count : DType
count = dtype.Primitive ptype.U64 NonNullable

constant_row : types IsConstant ≡ always truth
constant_row = refl

sorted_row : types IsSorted ≡ always truth
sorted_row = refl

strict_sorted_row : types IsStrictSorted ≡ always truth
strict_sorted_row = refl

-- the column's own type, null included
abbrev own : List (Option DType)
own = None ∷ Some (dtype.Bool Nullable) ∷ Some i32_or_null ∷ Some u8 ∷ Some (dtype.Utf8 NonNullable) ∷ Some (dtype.Binary Nullable) ∷ []

max_row : types Max ≡ own
max_row = refl

min_row : types Min ≡ own
min_row = refl

sum_row : types Sum ≡ None ∷ Some (dtype.Primitive ptype.U64 Nullable) ∷ Some (dtype.Primitive ptype.I64 Nullable) ∷ Some (dtype.Primitive ptype.U64 Nullable) ∷ None ∷ None ∷ []
sum_row = refl

null_count_row : types NullCount ≡ always count
null_count_row = refl

size_row : types UncompressedSizeInBytes ≡ always count
size_row = refl

nan_count_row : types NaNCount ≡ None ∷ None ∷ None ∷ None ∷ None ∷ None ∷ []
nan_count_row = refl

-- ---- aggregates

aggregates : map stat_aggregate statistics ≡ None ∷ None ∷ None ∷ Some aggregate.Max ∷ Some aggregate.Min ∷ Some aggregate.Sum
    ∷ Some aggregate.NullCount ∷ Some aggregate.UncompressedSizeInBytes ∷ Some aggregate.NanCount ∷ []
aggregates = refl

-- a test of all values, a test of all nulls and a pair of extremes are no statistics
statistics_of_aggregates : map aggregate_stat (aggregate.Max ∷ aggregate.Min ∷ aggregate.MinMax ∷ aggregate.Sum ∷ aggregate.NullCount ∷ aggregate.NanCount
    ∷ aggregate.UncompressedSizeInBytes ∷ aggregate.AllNull ∷ aggregate.AllNonNull ∷ [])
    ≡ Some Max ∷ Some Min ∷ None ∷ Some Sum ∷ Some NullCount ∷ Some NaNCount ∷ Some UncompressedSizeInBytes ∷ None ∷ None ∷ []
statistics_of_aggregates = refl
