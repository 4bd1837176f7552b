-- Worked rows of the definitions of merges and combination, found by computation alone.
use Rattle.std.proofs.Common.{refl}
use Rattle.std.specs.Prelude.{◌≡◌, [], ◌∷◌, true, false, Some, None}
use Rattle.vortex_base.specs.declared.scalar_value.ScalarValue.TheVariants as value
use Rattle.vortex_stats.specs.declared.precision.Precision.TheVariants.{Exact, Inexact, Absent}
use Rattle.vortex_stats.specs.declared.stat.Stat.TheVariants as stats
use Rattle.vortex_stats.specs.Merging.Merges.{merged_ordered, merged_unordered}
use Rattle.vortex_stats.specs.Merging.Combined.{combined}
use Rattle.vortex_stats.specs.Copies.{merge_copies, combination_copies}
use Rattle.vortex_stats.specs.Merging.MergeRows.{i32, i64, u64, letter, holds, fails, unknown}

-- Sums and counts that leave their type, and sums that stay.

overflowing_sums_most : merged_ordered ((stats.Sum, Exact (i64 9223372036854775807)) ∷ []) ((stats.Sum, Exact (i64 9223372036854775807)) ∷ []) ≡ []
overflowing_sums_most = refl

overflowing_sums_counts : merged_ordered ((stats.NullCount, Inexact (u64 18446744073709551615)) ∷ []) ((stats.NullCount, Exact (u64 1)) ∷ []) ≡ []
overflowing_sums_counts = refl

overflowing_sums_small : merged_ordered ((stats.Sum, Exact (i64 37)) ∷ []) ((stats.Sum, Exact (i64 42)) ∷ []) ≡ (stats.Sum, Exact (i64 79)) ∷ []
overflowing_sums_small = refl

-- Counts add up, and the sum is exact if both are.

counts_exact : merged_ordered ((stats.NullCount, Exact (u64 1)) ∷ []) ((stats.NullCount, Exact (u64 2)) ∷ []) ≡ (stats.NullCount, Exact (u64 3)) ∷ []
counts_exact = refl

counts_other_inexact : merged_ordered ((stats.NullCount, Exact (u64 1)) ∷ []) ((stats.NullCount, Inexact (u64 2)) ∷ []) ≡ (stats.NullCount, Inexact (u64 3)) ∷ []
counts_other_inexact = refl

counts_left_inexact : merged_ordered ((stats.UncompressedSizeInBytes, Inexact (u64 1)) ∷ []) ((stats.UncompressedSizeInBytes, Exact (u64 2)) ∷ []) ≡ (stats.UncompressedSizeInBytes, Inexact (u64 3)) ∷ []
counts_left_inexact = refl

counts_inexact : merged_ordered ((stats.NullCount, Inexact (u64 1)) ∷ []) ((stats.NullCount, Inexact (u64 2)) ∷ []) ≡ (stats.NullCount, Inexact (u64 3)) ∷ []
counts_inexact = refl

-- A count of NaNs is cleared, whatever the two sides know.

counts_of_nans_exact : merged_ordered ((stats.NaNCount, Exact (u64 0)) ∷ []) ((stats.NaNCount, Exact (u64 0)) ∷ []) ≡ []
counts_of_nans_exact = refl

counts_of_nans_left_alone : merged_ordered ((stats.NaNCount, Inexact (u64 2)) ∷ []) [] ≡ []
counts_of_nans_left_alone = refl

counts_of_nans_right_alone : merged_ordered [] ((stats.NaNCount, Exact (u64 2)) ∷ []) ≡ []
counts_of_nans_right_alone = refl

counts_of_nans_unordered : merged_unordered ((stats.NaNCount, Exact (u64 0)) ∷ []) ((stats.NaNCount, Exact (u64 0)) ∷ []) ≡ []
counts_of_nans_unordered = refl

-- Constants are compared by their exact minima.

constants_that_differ_inexact_min : merged_ordered ((stats.Min, Exact (i32 42)) ∷ (stats.IsConstant, holds) ∷ []) ((stats.Min, Inexact (i32 42)) ∷ (stats.IsConstant, holds) ∷ []) ≡ (stats.Min, Exact (i32 42)) ∷ []
constants_that_differ_inexact_min = refl

constants_that_differ_differ : merged_ordered ((stats.Min, Exact (i32 42)) ∷ (stats.IsConstant, holds) ∷ []) ((stats.Min, Exact (i32 7)) ∷ (stats.IsConstant, holds) ∷ []) ≡ (stats.Min, Exact (i32 7)) ∷ (stats.IsConstant, fails) ∷ []
constants_that_differ_differ = refl

constants_that_differ_alike : merged_ordered ((stats.Min, Exact (i32 42)) ∷ (stats.IsConstant, holds) ∷ []) ((stats.Min, Exact (i32 42)) ∷ (stats.IsConstant, holds) ∷ []) ≡ (stats.Min, Exact (i32 42)) ∷ (stats.IsConstant, holds) ∷ []
constants_that_differ_alike = refl

constants_that_differ_one_fails : merged_ordered ((stats.Min, Exact (i32 42)) ∷ (stats.IsConstant, fails) ∷ []) ((stats.Min, Exact (i32 42)) ∷ (stats.IsConstant, holds) ∷ []) ≡ (stats.Min, Exact (i32 42)) ∷ (stats.IsConstant, fails) ∷ []
constants_that_differ_one_fails = refl

constants_that_differ_unsure : merged_ordered ((stats.Min, Exact (i32 42)) ∷ (stats.IsConstant, Inexact (value.Bool true)) ∷ []) ((stats.Min, Exact (i32 42)) ∷ (stats.IsConstant, holds) ∷ []) ≡ (stats.Min, Exact (i32 42)) ∷ []
constants_that_differ_unsure = refl

-- IsConstant alone can be added; whatever else is known of one side alone is cleared.

one_side_absent_added : merged_ordered [] ((stats.IsConstant, fails) ∷ []) ≡ (stats.IsConstant, fails) ∷ []
one_side_absent_added = refl

one_side_absent_cleared : merged_ordered ((stats.Min, Exact (i32 42)) ∷ []) [] ≡ []
one_side_absent_cleared = refl

one_side_absent_not_taken : merged_ordered [] ((stats.Min, Exact (i32 42)) ∷ []) ≡ []
one_side_absent_not_taken = refl

one_side_absent_keeps_place : merged_ordered ((stats.IsConstant, Absent) ∷ (stats.Min, Exact (i32 1)) ∷ []) ((stats.IsConstant, fails) ∷ (stats.Min, Exact (i32 1)) ∷ []) ≡ (stats.IsConstant, fails) ∷ (stats.Min, Exact (i32 1)) ∷ []
one_side_absent_keeps_place = refl

-- Bounds join.

bounds_min : merged_ordered ((stats.Min, Exact (i32 37)) ∷ []) ((stats.Min, Exact (i32 42)) ∷ []) ≡ (stats.Min, Exact (i32 37)) ∷ []
bounds_min = refl

bounds_max : merged_ordered ((stats.Max, Exact (i32 37)) ∷ []) ((stats.Max, Exact (i32 42)) ∷ []) ≡ (stats.Max, Exact (i32 42)) ∷ []
bounds_max = refl

bounds_ceiling : merged_ordered ((stats.Max, Exact (i32 42)) ∷ []) ((stats.Max, Inexact (i32 43)) ∷ []) ≡ (stats.Max, Inexact (i32 43)) ∷ []
bounds_ceiling = refl

bounds_tie : merged_ordered ((stats.Min, Inexact (i32 5)) ∷ []) ((stats.Min, Exact (i32 5)) ∷ []) ≡ (stats.Min, Exact (i32 5)) ∷ []
bounds_tie = refl

-- A strict order needs strict order where the sides meet.

strict_order_at_the_seam_falls : merged_ordered ((stats.IsStrictSorted, holds) ∷ (stats.Max, Exact (i32 2)) ∷ []) ((stats.IsStrictSorted, holds) ∷ (stats.Min, Exact (i32 1)) ∷ []) ≡ (stats.IsStrictSorted, unknown) ∷ []
strict_order_at_the_seam_falls = refl

strict_order_at_the_seam_stays : merged_ordered ((stats.IsStrictSorted, holds) ∷ (stats.Max, Exact (i32 1)) ∷ []) ((stats.IsStrictSorted, holds) ∷ (stats.Min, Exact (i32 1)) ∷ []) ≡ (stats.IsStrictSorted, unknown) ∷ []
strict_order_at_the_seam_stays = refl

strict_order_at_the_seam_rises : merged_ordered ((stats.IsStrictSorted, holds) ∷ (stats.Max, Exact (i32 1)) ∷ []) ((stats.IsStrictSorted, holds) ∷ (stats.Min, Inexact (i32 2)) ∷ []) ≡ (stats.IsStrictSorted, holds) ∷ []
strict_order_at_the_seam_rises = refl

strict_order_at_the_seam_unsorted : merged_ordered ((stats.IsStrictSorted, holds) ∷ (stats.Max, Exact (i32 1)) ∷ []) ((stats.IsStrictSorted, fails) ∷ (stats.Min, Exact (i32 2)) ∷ []) ≡ []
strict_order_at_the_seam_unsorted = refl

strict_order_at_the_seam_no_min : merged_ordered ((stats.IsStrictSorted, holds) ∷ (stats.Max, Exact (i32 1)) ∷ []) ((stats.IsStrictSorted, holds) ∷ []) ≡ []
strict_order_at_the_seam_no_min = refl

-- Without an order of the rows nothing is known of their order.

unordered_merge : merged_unordered
    ((stats.Min, Exact (i32 1)) ∷ (stats.Max, Exact (i32 10000)) ∷ (stats.NullCount, Exact (u64 2)) ∷ (stats.UncompressedSizeInBytes, Exact (u64 25)) ∷ (stats.IsConstant, fails) ∷ (stats.IsSorted, holds) ∷ (stats.IsStrictSorted, holds) ∷ [])
    ((stats.Min, Exact (i32 1)) ∷ (stats.Max, Exact (i32 10000)) ∷ (stats.NullCount, Exact (u64 2)) ∷ (stats.UncompressedSizeInBytes, Exact (u64 25)) ∷ (stats.IsConstant, fails) ∷ (stats.IsSorted, holds) ∷ (stats.IsStrictSorted, holds) ∷ [])
    ≡ (stats.Min, Exact (i32 1)) ∷ (stats.Max, Exact (i32 10000)) ∷ (stats.NullCount, Exact (u64 4)) ∷ (stats.UncompressedSizeInBytes, Exact (u64 50)) ∷ (stats.IsConstant, fails) ∷ []
unordered_merge = refl

-- A merge copies a text that is the bound of both sides and not the left side's, and no number.

copies_of_merges_number : merge_copies ((stats.Max, Exact (i32 1)) ∷ []) ((stats.Max, Exact (i32 2)) ∷ []) ≡ false
copies_of_merges_number = refl

copies_of_merges_greater : merge_copies ((stats.Max, Exact (letter 97)) ∷ []) ((stats.Max, Exact (letter 98)) ∷ []) ≡ true
copies_of_merges_greater = refl

copies_of_merges_lesser : merge_copies ((stats.Min, Exact (letter 98)) ∷ []) ((stats.Min, Exact (letter 97)) ∷ []) ≡ true
copies_of_merges_lesser = refl

copies_of_merges_stays : merge_copies ((stats.Max, Exact (letter 98)) ∷ []) ((stats.Max, Exact (letter 97)) ∷ []) ≡ false
copies_of_merges_stays = refl

copies_of_merges_one_sided : merge_copies [] ((stats.Max, Exact (letter 97)) ∷ []) ≡ false
copies_of_merges_one_sided = refl

-- A combination copies a text that it writes, as far as the first conflict, and no number.

copies_of_combinations_number : combination_copies [] ((stats.Max, Exact (i32 2)) ∷ []) ≡ false
copies_of_combinations_number = refl

copies_of_combinations_new : combination_copies [] ((stats.Max, Exact (letter 97)) ∷ []) ≡ true
copies_of_combinations_new = refl

copies_of_combinations_met : combination_copies ((stats.Max, Inexact (letter 98)) ∷ []) ((stats.Max, Exact (letter 97)) ∷ []) ≡ true
copies_of_combinations_met = refl

copies_of_combinations_conflict : combination_copies ((stats.NullCount, Exact (u64 1)) ∷ []) ((stats.NullCount, Exact (u64 2)) ∷ (stats.Max, Exact (letter 97)) ∷ []) ≡ false
copies_of_combinations_conflict = refl

-- A conflict leaves the earlier entries combined.

conflict_at_min : combined ((stats.Min, Exact (i32 5)) ∷ []) ((stats.Max, Exact (i32 9)) ∷ (stats.Min, Exact (i32 4)) ∷ (stats.NullCount, Exact (u64 0)) ∷ []) ≡ record { entries = (stats.Min, Exact (i32 5)) ∷ (stats.Max, Exact (i32 9)) ∷ []; conflict = Some stats.Min }
conflict_at_min = refl

-- A count meets another value of it as an upper bound does: an exact one within an inexact one stays, and one above it is a conflict.

counts_that_meet_nulls_within : combined ((stats.NullCount, Exact (u64 5)) ∷ []) ((stats.NullCount, Inexact (u64 7)) ∷ []) ≡ record { entries = (stats.NullCount, Exact (u64 5)) ∷ []; conflict = None }
counts_that_meet_nulls_within = refl

counts_that_meet_nulls_above : combined ((stats.NullCount, Exact (u64 5)) ∷ []) ((stats.NullCount, Inexact (u64 3)) ∷ []) ≡ record { entries = (stats.NullCount, Exact (u64 5)) ∷ []; conflict = Some stats.NullCount }
counts_that_meet_nulls_above = refl

counts_that_meet_size_within : combined ((stats.UncompressedSizeInBytes, Inexact (u64 7)) ∷ []) ((stats.UncompressedSizeInBytes, Exact (u64 5)) ∷ []) ≡ record { entries = (stats.UncompressedSizeInBytes, Exact (u64 5)) ∷ []; conflict = None }
counts_that_meet_size_within = refl

counts_that_meet_size_above : combined ((stats.UncompressedSizeInBytes, Inexact (u64 3)) ∷ []) ((stats.UncompressedSizeInBytes, Exact (u64 5)) ∷ []) ≡ record { entries = (stats.UncompressedSizeInBytes, Inexact (u64 3)) ∷ []; conflict = Some stats.UncompressedSizeInBytes }
counts_that_meet_size_above = refl

counts_that_meet_inexact : combined ((stats.NullCount, Inexact (u64 7)) ∷ (stats.UncompressedSizeInBytes, Inexact (u64 5)) ∷ []) ((stats.NullCount, Inexact (u64 5)) ∷ (stats.UncompressedSizeInBytes, Inexact (u64 7)) ∷ []) ≡ record { entries = (stats.NullCount, Inexact (u64 5)) ∷ (stats.UncompressedSizeInBytes, Inexact (u64 5)) ∷ []; conflict = None }
counts_that_meet_inexact = refl

counts_that_meet_nans : combined ((stats.NaNCount, Exact (u64 5)) ∷ []) ((stats.NaNCount, Inexact (u64 3)) ∷ []) ≡ record { entries = (stats.NaNCount, Exact (u64 5)) ∷ []; conflict = Some stats.NaNCount }
counts_that_meet_nans = refl

-- Exact values stay where inexact ones of the other set agree, and take the place of inexact ones.

inexact_bounds_that_meet : combined ((stats.Min, Exact (i32 42)) ∷ (stats.Max, Inexact (i32 100)) ∷ (stats.IsConstant, fails) ∷ []) ((stats.Min, Inexact (i32 40)) ∷ (stats.Max, Exact (i32 90)) ∷ (stats.IsSorted, holds) ∷ []) ≡ record { entries = (stats.Min, Exact (i32 42)) ∷ (stats.Max, Exact (i32 90)) ∷ (stats.IsConstant, fails) ∷ (stats.IsSorted, holds) ∷ []; conflict = None }
inexact_bounds_that_meet = refl

-- An Absent entry of the right set says nothing, and clears one of the left.

absent_entries_none : combined [] ((stats.Max, Absent) ∷ []) ≡ record { entries = []; conflict = None }
absent_entries_none = refl

absent_entries_cleared : combined ((stats.Max, Absent) ∷ []) ((stats.Max, Absent) ∷ []) ≡ record { entries = []; conflict = None }
absent_entries_cleared = refl

-- Truth values, and statistics that one set alone has.

combinations_alike : combined ((stats.IsConstant, holds) ∷ []) ((stats.IsConstant, holds) ∷ []) ≡ record { entries = (stats.IsConstant, holds) ∷ []; conflict = None }
combinations_alike = refl

combinations_looser : combined ((stats.IsConstant, holds) ∷ []) ((stats.IsConstant, unknown) ∷ []) ≡ record { entries = (stats.IsConstant, holds) ∷ []; conflict = None }
combinations_looser = refl

combinations_lesser : combined ((stats.IsConstant, fails) ∷ []) ((stats.IsConstant, Inexact (value.Bool true)) ∷ []) ≡ record { entries = (stats.IsConstant, unknown) ∷ []; conflict = None }
combinations_lesser = refl

combinations_differ : combined ((stats.IsConstant, holds) ∷ (stats.IsSorted, holds) ∷ []) ((stats.IsConstant, fails) ∷ (stats.IsSorted, holds) ∷ []) ≡ record { entries = (stats.IsConstant, holds) ∷ (stats.IsSorted, holds) ∷ []; conflict = Some stats.IsConstant }
combinations_differ = refl

combinations_missing : combined ((stats.Min, Exact (i32 42)) ∷ (stats.UncompressedSizeInBytes, Exact (u64 1000)) ∷ []) ((stats.Max, Exact (i32 100)) ∷ (stats.IsStrictSorted, holds) ∷ []) ≡ record { entries = (stats.Min, Exact (i32 42)) ∷ (stats.UncompressedSizeInBytes, Exact (u64 1000)) ∷ (stats.Max, Exact (i32 100)) ∷ (stats.IsStrictSorted, holds) ∷ []; conflict = None }
combinations_missing = refl
