-- Worked rows: which answers are facts of some values, and which aren't, for each aggregate.
use Rattle.std.proofs.Common.{ℕ, true, false, List, [], ◌∷◌, Option, Some, None, refl, arith}
use Rattle.std.specs.Prelude.{pos}
use Rattle.vortex_base.specs.declared.aggregate.AggregateFnRef.TheVariants.{Max, Min, Sum, NullCount, NanCount, UncompressedSizeInBytes, AllNull, AllNonNull, MinMax}
use Rattle.vortex_base.specs.declared.pvalue.PValue.TheVariants as number
use Rattle.vortex_base.specs.declared.scalar_value.ScalarValue.{ScalarValue}
use Rattle.vortex_base.specs.declared.scalar_value.ScalarValue.TheVariants as value
use Rattle.vortex_stats.specs.Sets.Claims.{count_value}
use Rattle.vortex_rewrite.specs.Facts.{IsFact}
use mathlib.Core.Bool.{true≢false}

abbrev num : ℕ → ScalarValue
num n = value.Primitive (number.I32 (pos n))

-- the values 3, null, 5, of a column of 8 bytes
abbrev values : List (Option ScalarValue)
values = Some (num 3) ∷ None ∷ Some (num 5) ∷ []

-- only nulls, and no values at all
abbrev nulls : List (Option ScalarValue)
nulls = None ∷ None ∷ []

abbrev size : Option ℕ
size = Some 8

-- ---- extremes: 4 is neither below nor above all values

not_greatest : IsFact Max (Some (num 4)) values size → ⊥
not_greatest h = true≢false (h (num 5) (2, omega arith, refl))

not_least : IsFact Min (Some (num 4)) values size → ⊥
not_least h = true≢false (h (num 3) (0, omega arith, refl))

-- the greatest value is no least one, nor the least a greatest
high_is_not_least : IsFact Min (Some (num 5)) values size → ⊥
high_is_not_least h = true≢false (h (num 3) (0, omega arith, refl))

low_is_not_greatest : IsFact Max (Some (num 3)) values size → ⊥
low_is_not_greatest h = true≢false (h (num 5) (2, omega arith, refl))

of_no_values : IsFact Max (Some (num 4)) [] size
of_no_values w h = absurd (omega (arith, h.1))

-- ---- sums and counts

sum : IsFact Sum (Some (value.Primitive (number.I64 (pos 8)))) values size
sum = refl

other_sum : IsFact Sum (Some (value.Primitive (number.I64 (pos 9)))) values size → ⊥
other_sum h = cc

truth_is_no_sum : IsFact Sum (Some (value.Bool true)) values size → ⊥
truth_is_no_sum h = h

nulls_counted : IsFact NullCount (Some (count_value 1)) values size
nulls_counted = refl

other_count : IsFact NullCount (Some (count_value 2)) values size → ⊥
other_count h = cc

count_of_another_type : IsFact NullCount (Some (value.Primitive (number.I64 (pos 1)))) values size → ⊥
count_of_another_type h = cc

-- ---- sizes

own_size : IsFact UncompressedSizeInBytes (Some (count_value 8)) values size
own_size = refl

other_size : IsFact UncompressedSizeInBytes (Some (count_value 9)) values size → ⊥
other_size h = cc

number_of_values : IsFact UncompressedSizeInBytes (Some (count_value 3)) values size → ⊥
number_of_values h = cc

no_column_has_a_size : IsFact UncompressedSizeInBytes (Some (count_value 8)) values None → ⊥
no_column_has_a_size h = h

-- ---- whether all values, or none, are null

some_values : IsFact AllNull (Some (value.Bool false)) values size
some_values = refl

not_all_null : IsFact AllNull (Some (value.Bool true)) values size → ⊥
not_all_null h = cc

some_null : IsFact AllNonNull (Some (value.Bool false)) values size
some_null = refl

not_without_null : IsFact AllNonNull (Some (value.Bool true)) values size → ⊥
not_without_null h = cc

only_nulls : IsFact AllNull (Some (value.Bool true)) nulls size
only_nulls = refl

not_some_values : IsFact AllNull (Some (value.Bool false)) nulls size → ⊥
not_some_values h = cc

without_values_all_null : IsFact AllNull (Some (value.Bool true)) [] size
without_values_all_null = refl

without_values_none_null : IsFact AllNonNull (Some (value.Bool true)) [] size
without_values_none_null = refl

-- ---- of which nothing is a fact but null

no_count_of_nans : IsFact NanCount (Some (count_value 0)) values size → ⊥
no_count_of_nans h = h

no_pair : IsFact MinMax (Some (num 3)) values size → ⊥
no_pair h = h

null_is_a_fact : IsFact MinMax None values size
null_is_a_fact = tt
