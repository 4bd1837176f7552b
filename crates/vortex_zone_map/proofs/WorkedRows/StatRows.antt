-- Worked rows of the values that statistics give, found by computation alone.
use Rattle.std.specs.Prelude.{◌≡◌, ℕ, true, false, [], ◌∷◌, Some, None, pos, refl}
use Rattle.vortex_base.specs.declared.aggregate.AggregateFnRef.TheVariants as aggregate
use Rattle.vortex_base.specs.declared.pvalue.PValue.TheVariants as number
use Rattle.vortex_base.specs.declared.scalar_value.ScalarValue.{ScalarValue}
use Rattle.vortex_base.specs.declared.scalar_value.ScalarValue.TheVariants as value
use Rattle.vortex_stats.specs.declared.precision.Precision.TheVariants.{Exact, Inexact, Absent}
use Rattle.vortex_stats.specs.declared.stat.Stat.TheVariants.{Max, Min, Sum, NullCount, UncompressedSizeInBytes}
use Rattle.vortex_zone_map.specs.StatValues.{read_stat, stat_value, told_value}

abbrev count : ℕ → ScalarValue
count n = value.Primitive (number.U64 n)

abbrev sum : ScalarValue
sum = value.Primitive (number.I64 (pos 6))

exact_nulls : stat_value aggregate.AllNull ((NullCount, Exact (count 3)) ∷ []) 3 ≡ Some (value.Bool true)
exact_nulls = refl

fewer_nulls : stat_value aggregate.AllNull ((NullCount, Inexact (count 2)) ∷ []) 3 ≡ Some (value.Bool false)
fewer_nulls = refl

perhaps_all_null : stat_value aggregate.AllNull ((NullCount, Inexact (count 3)) ∷ []) 3 ≡ None
perhaps_all_null = refl

no_nulls : stat_value aggregate.AllNonNull ((NullCount, Inexact (count 0)) ∷ []) 3 ≡ Some (value.Bool true)
no_nulls = refl

exactly_no_nulls : stat_value aggregate.AllNonNull ((NullCount, Exact (count 0)) ∷ []) 4 ≡ Some (value.Bool true)
exactly_no_nulls = refl

perhaps_nulls : stat_value aggregate.AllNonNull ((NullCount, Inexact (count 2)) ∷ []) 4 ≡ None
perhaps_nulls = refl

exact_sum : stat_value aggregate.Sum ((Sum, Exact sum) ∷ []) 3 ≡ Some sum
exact_sum = refl

inexact_sum : stat_value aggregate.Sum ((Sum, Inexact sum) ∷ []) 3 ≡ None
inexact_sum = refl

no_sum : stat_value aggregate.Sum [] 3 ≡ None
no_sum = refl

count_of_nulls : stat_value aggregate.NullCount ((NullCount, Exact (count 2)) ∷ []) 4 ≡ Some (count 2)
count_of_nulls = refl

inexact_count : stat_value aggregate.NullCount ((NullCount, Inexact (count 2)) ∷ []) 4 ≡ None
inexact_count = refl

inexactly_none : stat_value aggregate.NullCount ((NullCount, Inexact (count 0)) ∷ []) 4 ≡ Some (count 0)
inexactly_none = refl

inexact_max : stat_value aggregate.Max ((Min, Exact (count 1)) ∷ (Max, Inexact (count 3)) ∷ []) 3 ≡ Some (count 3)
inexact_max = refl

-- ---- the statistic that is read, and what its value tells

reads_max : read_stat aggregate.Max ≡ Some Max
reads_max = refl

reads_min : read_stat aggregate.Min ≡ Some Min
reads_min = refl

reads_sum : read_stat aggregate.Sum ≡ Some Sum
reads_sum = refl

reads_nulls : read_stat aggregate.NullCount ≡ Some NullCount
reads_nulls = refl

reads_size : read_stat aggregate.UncompressedSizeInBytes ≡ Some UncompressedSizeInBytes
reads_size = refl

reads_nulls_for_all : read_stat aggregate.AllNull ≡ Some NullCount
reads_nulls_for_all = refl

reads_nulls_for_none : read_stat aggregate.AllNonNull ≡ Some NullCount
reads_nulls_for_none = refl

reads_no_pair : read_stat aggregate.MinMax ≡ None
reads_no_pair = refl

reads_no_nans : read_stat aggregate.NanCount ≡ None
reads_no_nans = refl

told_max : told_value aggregate.Max (Inexact (count 3)) 4 ≡ Some (count 3)
told_max = refl

told_min : told_value aggregate.Min (Inexact (count 3)) 4 ≡ Some (count 3)
told_min = refl

told_sum : told_value aggregate.Sum (Inexact (count 3)) 4 ≡ None
told_sum = refl

told_exact_sum : told_value aggregate.Sum (Exact (count 3)) 4 ≡ Some (count 3)
told_exact_sum = refl

told_nulls : told_value aggregate.NullCount (Inexact (count 3)) 4 ≡ None
told_nulls = refl

told_exact_nulls : told_value aggregate.NullCount (Exact (count 3)) 4 ≡ Some (count 3)
told_exact_nulls = refl

told_size : told_value aggregate.UncompressedSizeInBytes (Inexact (count 0)) 4 ≡ None
told_size = refl

told_exact_size : told_value aggregate.UncompressedSizeInBytes (Exact (count 0)) 4 ≡ Some (count 0)
told_exact_size = refl

-- the row count counts here
told_all_null : told_value aggregate.AllNull (Exact (count 3)) 3 ≡ Some (value.Bool true)
told_all_null = refl

told_not_all_null : told_value aggregate.AllNull (Exact (count 3)) 4 ≡ Some (value.Bool false)
told_not_all_null = refl

told_none_null : told_value aggregate.AllNonNull (Exact (count 0)) 3 ≡ Some (value.Bool true)
told_none_null = refl

told_absent : told_value aggregate.Max Absent 3 ≡ None
told_absent = refl

told_no_pair : told_value aggregate.MinMax (Exact (count 3)) 3 ≡ None
told_no_pair = refl

told_no_nans : told_value aggregate.NanCount (Exact (count 3)) 3 ≡ None
told_no_nans = refl
