-- Worked rows of batches that are written one behind another, found by computation alone.
use Rattle.std.proofs.Common.{◌≡◌, ℕ, ◌-◌, ◌^◌, true, false, List, [], ◌∷◌, map, Option, Some, None, refl}
use Rattle.std.specs.Prelude.{ℤ, pos, negsuc}
use Rattle.vortex_base.specs.declared.dtype.DType.TheVariants as dtype
use Rattle.vortex_base.specs.declared.types.Nullability.TheVariants.{Nullable}
use Rattle.vortex_base.specs.declared.types.PType.TheVariants as ptype
use Rattle.vortex_base.specs.declared.pvalue.PValue.TheVariants as number
use Rattle.vortex_base.specs.declared.scalar_value.ScalarValue.{ScalarValue}
use Rattle.vortex_base.specs.declared.scalar_value.ScalarValue.TheVariants as value
use Rattle.vortex_base.specs.Data.Columns.{ColumnData, appended}
use Rattle.vortex_stats.specs.declared.stat.Stat.{Stat}
use Rattle.vortex_stats.specs.declared.stat.Stat.TheVariants.{Max, Min, Sum, NullCount, UncompressedSizeInBytes}
use Rattle.vortex_stats.specs.declared.precision.Precision.{Precision}
use Rattle.vortex_stats.specs.Measuring.Measured.{measured, measured_value}
use Rattle.vortex_stats.specs.Merging.Merges.{merged_ordered}
use Rattle.vortex_stats.specs.Sets.Entries.{entry_value}
use Rattle.vortex_stats.specs.Stat.{all_stats}
use Rattle.vortex_base_tests.specs.StatisticsRows.Writing.{IsMeasuredThroughout, adds_up, written}

abbrev long : ℤ → Option ScalarValue
long z = Some (value.Primitive (number.I64 z))

abbrev longs : List (Option ScalarValue) → ℕ → ColumnData
longs xs n = record { dtype = dtype.Primitive ptype.I64 Nullable; values = xs; size = n }

-- three batches: two numbers with a null between, one number, and a null before a number
abbrev first : ColumnData
first = longs (long (pos 5) ∷ None ∷ long (negsuc 2) ∷ []) 10

abbrev second : ColumnData
second = longs (long (pos 7) ∷ []) 20

abbrev third : ColumnData
third = longs (None ∷ long (pos 2) ∷ []) 30

in_order : written first (second ∷ third ∷ []) ≡ longs (long (pos 5) ∷ None ∷ long (negsuc 2) ∷ long (pos 7) ∷ None ∷ long (pos 2) ∷ []) 60
in_order = refl

those_that_add_up : map adds_up all_stats ≡ false ∷ false ∷ false ∷ true ∷ true ∷ true ∷ true ∷ true ∷ false ∷ []
unfolding all_stats
those_that_add_up = refl

abbrev adding : List Stat
adding = Max ∷ Min ∷ Sum ∷ NullCount ∷ UncompressedSizeInBytes ∷ []

abbrev accumulated : List (Stat × Precision ScalarValue)
accumulated = merged_ordered (merged_ordered (measured all_stats first) (measured all_stats second)) (measured all_stats third)

-- what is accumulated of them is what is measured of all
equal : map (λ s. entry_value s accumulated) adding ≡ map (λ s. entry_value s (measured all_stats (written first (second ∷ third ∷ [])))) adding
unfolding all_stats
equal = refl

throughout : IsMeasuredThroughout Sum first (second ∷ third ∷ [])
throughout = (refl, (refl, (refl, (refl, refl))))

bounded_throughout : IsMeasuredThroughout Max first (second ∷ third ∷ [])
bounded_throughout = (refl, (refl, (refl, (refl, refl))))

-- a batch of nulls alone has no bounds
unbounded : measured_value Max (longs (None ∷ []) 0) ≡ None
unbounded = refl

-- a sum that leaves its type on the way and comes back
abbrev greatest_long : ColumnData
greatest_long = longs (long (pos (2 ^ 63 - 1)) ∷ []) 0

abbrev one : ColumnData
one = longs (long (pos 1) ∷ []) 0

abbrev minus_one : ColumnData
minus_one = longs (long (negsuc 0) ∷ []) 0

left : measured_value Sum (appended greatest_long one) ≡ None
left = refl

back : measured_value Sum (written greatest_long (one ∷ minus_one ∷ [])) ≡ long (pos (2 ^ 63 - 1))
back = refl
