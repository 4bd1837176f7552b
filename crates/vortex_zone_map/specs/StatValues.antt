-- What a set of statistics answers to a placeholder over a column of n rows.
use Rattle.std.specs.Prelude.{ℕ, ◌==◌, nat_lt, true, false, List, Option, Some, None, if◌then◌else◌}
use Rattle.vortex_base.specs.declared.aggregate.AggregateFnRef.{AggregateFnRef}
use Rattle.vortex_base.specs.declared.aggregate.AggregateFnRef.TheVariants as aggregate
use Rattle.vortex_base.specs.declared.pvalue.PValue.TheVariants as number
use Rattle.vortex_base.specs.declared.scalar_value.ScalarValue.{ScalarValue}
use Rattle.vortex_base.specs.declared.scalar_value.ScalarValue.TheVariants as value
use Rattle.vortex_stats.specs.declared.precision.Precision.{Precision}
use Rattle.vortex_stats.specs.declared.precision.Precision.TheVariants.{Exact, Inexact, Absent}
use Rattle.vortex_stats.specs.declared.stat.Stat.{Stat}
use Rattle.vortex_stats.specs.declared.stat.Stat.TheVariants.{Max, Min, Sum, NullCount, UncompressedSizeInBytes}
use Rattle.vortex_stats.specs.Sets.Claims.{count_value}
use Rattle.vortex_stats.specs.Sets.Entries.{entry_value}
use Rattle.vortex_stats.specs.Precision.{present_value}

-- the count that a value is, if it is one
abbrev pub count_of : ScalarValue → Option ℕ
count_of (value.Primitive (number.U64 c)) = Some c
count_of v = None

abbrev pub of_count : Option ℕ → (ℕ → Option ScalarValue) → Option ScalarValue
of_count None f = None
of_count (Some c) f = f c

-- whether every value is null: an exact count of nulls tells, and a greater one than that of the nulls tells where it is below n
abbrev pub all_null_value : Precision ScalarValue → (n : ℕ) → Option ScalarValue
all_null_value (Exact v) n = of_count (count_of v) (λ c. Some (value.Bool (c == n)))
all_null_value (Inexact v) n = of_count (count_of v) (λ c. if nat_lt c n then Some (value.Bool false) else None)
all_null_value Absent n = None

-- whether no value is null: an exact count tells, and an inexact one where it is 0
abbrev pub all_non_null_value : Precision ScalarValue → Option ScalarValue
all_non_null_value (Exact v) = of_count (count_of v) (λ c. Some (value.Bool (c == 0)))
all_non_null_value (Inexact v) = of_count (count_of v) (λ c. if c == 0 then Some (value.Bool true) else None)
all_non_null_value Absent = None

-- an exact count, and an inexact one where it is 0
abbrev pub null_count_value : Precision ScalarValue → Option ScalarValue
null_count_value (Exact v) = Some v
null_count_value (Inexact v) = of_count (count_of v) (λ c. if c == 0 then Some (count_value 0) else None)
null_count_value Absent = None

-- the value of an exact entry alone
abbrev pub exact_value : Precision ScalarValue → Option ScalarValue
exact_value (Exact v) = Some v
exact_value (Inexact v) = None
exact_value Absent = None

-- the value that the entries of a column of n rows give to an aggregate of it
abbrev pub stat_value : AggregateFnRef → List (Stat × Precision ScalarValue) → (n : ℕ) → Option ScalarValue
stat_value aggregate.Max es n = present_value (entry_value Max es)
stat_value aggregate.Min es n = present_value (entry_value Min es)
stat_value aggregate.Sum es n = exact_value (entry_value Sum es)
stat_value aggregate.NullCount es n = null_count_value (entry_value NullCount es)
stat_value aggregate.UncompressedSizeInBytes es n = exact_value (entry_value UncompressedSizeInBytes es)
stat_value aggregate.AllNull es n = all_null_value (entry_value NullCount es) n
stat_value aggregate.AllNonNull es n = all_non_null_value (entry_value NullCount es)
stat_value aggregate.MinMax es n = None
stat_value aggregate.NanCount es n = None

-- ---- the value of the one statistic that is read

-- the statistic by which an aggregate is answered, if there is one
abbrev pub read_stat : AggregateFnRef → Option Stat
read_stat aggregate.Max = Some Max
read_stat aggregate.Min = Some Min
read_stat aggregate.Sum = Some Sum
read_stat aggregate.NullCount = Some NullCount
read_stat aggregate.UncompressedSizeInBytes = Some UncompressedSizeInBytes
read_stat aggregate.AllNull = Some NullCount
read_stat aggregate.AllNonNull = Some NullCount
read_stat aggregate.MinMax = None
read_stat aggregate.NanCount = None

-- the value that this value of it gives to the aggregate of a column of n rows
abbrev pub told_value : AggregateFnRef → Precision ScalarValue → (n : ℕ) → Option ScalarValue
told_value aggregate.Max p n = present_value p
told_value aggregate.Min p n = present_value p
told_value aggregate.Sum p n = exact_value p
told_value aggregate.NullCount p n = null_count_value p
told_value aggregate.UncompressedSizeInBytes p n = exact_value p
told_value aggregate.AllNull p n = all_null_value p n
told_value aggregate.AllNonNull p n = all_non_null_value p
told_value aggregate.MinMax p n = None
told_value aggregate.NanCount p n = None
