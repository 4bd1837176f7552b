-- Sets that are true of two columns merge to one that is true of the first with the second appended.
use Rattle.std.proofs.Common.{◌≡◌, true, List, Option, Some, None, sym, subst}
use Rattle.std.specs.Prelude.{MatchOption, ⊤}
use Rattle.vortex_base.specs.declared.scalar_value.ScalarValue.{ScalarValue}
use Rattle.vortex_base.specs.Data.Columns.{ColumnData}
use Rattle.vortex_stats.specs.declared.stat.Stat.{Stat}
use Rattle.vortex_stats.specs.declared.stat.Stat.TheVariants.{IsConstant, IsSorted, IsStrictSorted, Max, Min, Sum, NullCount, UncompressedSizeInBytes, NaNCount}
use Rattle.vortex_stats.specs.declared.precision.Precision.{Precision}
use Rattle.vortex_stats.specs.declared.precision.Precision.TheVariants.{Absent}
use Rattle.vortex_stats.specs.Sets.Claims.{Claims, ClaimsCount, ClaimsSum, IsTrueOf, appended, present, null_count, sum_of}
use Rattle.vortex_stats.specs.Sets.Entries.{entry_value, entries_fit}
use Rattle.vortex_stats.specs.Merging.Merges.{merged_value, merged_ordered, count_merged, sum_merged, all_revised}
use Rattle.vortex_stats.specs.Bounds.Order.{reversed_total}
use Rattle.vortex_stats.proofs.Bounds.Ascending.{sorted_of_merged, strict_of_merged}
use Rattle.vortex_stats.proofs.Merging.Constants.{constant_of_merged}
use Rattle.vortex_stats.proofs.Merging.Counts.{null_count-append, count_of_merged}
use Rattle.vortex_stats.proofs.Merging.Extremes.{greatest_of_union}
use Rattle.vortex_stats.proofs.Sets.Lookups.{or_absent, entry_value-all_revised}
use Rattle.vortex_stats.proofs.Merging.MergedFits.{merged_ordered-fits}
use Rattle.vortex_stats.proofs.Merging.Sums.{sum_of-both, sum_of_merged}
use Rattle.vortex_stats.proofs.Bounds.ValueOrder.{value_total}

-- Absent claims nothing
pub absent_claims : (s : Stat) (c : ColumnData) → Claims s Absent c
absent_claims IsConstant c = tt
absent_claims IsSorted c = tt
absent_claims IsStrictSorted c = tt
absent_claims Max c = tt
absent_claims Min c = tt
absent_claims Sum c = tt
absent_claims NullCount c = tt
absent_claims UncompressedSizeInBytes c = tt
absent_claims NaNCount c = tt

-- the value, if there is one, has its claim
abbrev pub Tells : Stat → ColumnData → Option (Precision ScalarValue) → Type 0
Tells s c o = MatchOption o ⊤ (λ p. Claims s p c)

pub or_absent_claims : (s : Stat) (c : ColumnData) (o : Option (Precision ScalarValue)) → Tells s c o → Claims s (or_absent o) c
or_absent_claims s c None h = absent_claims s c
or_absent_claims s c (Some p) h = h

-- a set with new values that fits, and whose new values have their claims
pub true_by_values : (v : Stat → Option (Precision ScalarValue)) (es : List (Stat × Precision ScalarValue)) (c : ColumnData)
    → entries_fit (all_revised v es) c.dtype ≡ true → ((s : Stat) → Tells s c (v s)) → IsTrueOf (all_revised v es) c
true_by_values v es c f h = record {
  fits = f;
  claims = λ s. subst (λ p. Claims s p c) (sym (entry_value-all_revised v s es)) (or_absent_claims s c (v s) (h s));
}

-- each merged value is true of the appended column
pub merged_value_tells : (s : Stat) (a b : List (Stat × Precision ScalarValue)) (c d : ColumnData) → ((t : Stat) → Claims t (entry_value t a) c) → ((t : Stat) → Claims t (entry_value t b) d)
    → Tells s (appended c d) (merged_value s a b)
merged_value_tells IsConstant a b c d p q =
    constant_of_merged c.values d.values (entry_value IsConstant a) (entry_value IsConstant b) (entry_value Min a) (entry_value Min b) (p IsConstant) (q IsConstant) (p Min) (q Min)
merged_value_tells IsSorted a b c d p q =
    sorted_of_merged (entry_value IsSorted a) (entry_value IsSorted b) (entry_value Max a) (entry_value Min b) c.values d.values (p IsSorted) (q IsSorted) (p Max) (q Min)
merged_value_tells IsStrictSorted a b c d p q =
    strict_of_merged (entry_value IsStrictSorted a) (entry_value IsStrictSorted b) (entry_value Max a) (entry_value Min b) c.values d.values (p IsStrictSorted) (q IsStrictSorted) (p Max) (q Min)
merged_value_tells Max a b c d p q = greatest_of_union value_total (entry_value Max a) (entry_value Max b) c.values d.values (p Max) (q Max)
merged_value_tells Min a b c d p q = greatest_of_union (reversed_total value_total) (entry_value Min a) (entry_value Min b) c.values d.values (p Min) (q Min)
merged_value_tells Sum a b c d p q =
    subst (λ n. MatchOption (sum_merged (entry_value Sum a) (entry_value Sum b)) ⊤ (λ r. ClaimsSum r n)) (sym (sum_of-both c.values d.values))
    (sum_of_merged (entry_value Sum a) (entry_value Sum b) (sum_of (present c.values)) (sum_of (present d.values)) (p Sum) (q Sum))
merged_value_tells NullCount a b c d p q =
    subst (λ n. MatchOption (count_merged (entry_value NullCount a) (entry_value NullCount b)) ⊤ (λ r. ClaimsCount r n)) (sym (null_count-append c.values d.values))
    (count_of_merged (entry_value NullCount a) (entry_value NullCount b) (null_count c.values) (null_count d.values) (p NullCount) (q NullCount))
merged_value_tells UncompressedSizeInBytes a b c d p q =
    count_of_merged (entry_value UncompressedSizeInBytes a) (entry_value UncompressedSizeInBytes b) c.size d.size (p UncompressedSizeInBytes) (q UncompressedSizeInBytes)
merged_value_tells NaNCount a b c d p q = tt

pub merged_ordered_is_true : (a b : List (Stat × Precision ScalarValue)) (c d : ColumnData) → c.dtype ≡ d.dtype → IsTrueOf a c → IsTrueOf b d → IsTrueOf (merged_ordered a b) (appended c d)
merged_ordered_is_true a b c d e p q =
    true_by_values (λ s. merged_value s a b) a (appended c d)
    (merged_ordered-fits c.dtype a b p.fits (subst (λ t. entries_fit b t ≡ true) (sym e) q.fits))
    (λ s. merged_value_tells s a b c d p.claims q.claims)
