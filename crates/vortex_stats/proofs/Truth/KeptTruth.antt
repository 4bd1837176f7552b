-- A true set stays true with entries left out, with a true value written, and with a value made inexact.
use Rattle.std.proofs.Common.{◌≡◌, Bool, true, false, not, List, refl, sym, subst}
use Rattle.std.specs.List.{filter, list_any}
use Rattle.std.specs.Ordering.{flip_args}
use Rattle.vortex_base.specs.declared.dtype.DType.{DType}
use Rattle.vortex_base.specs.declared.scalar_value.ScalarValue.{ScalarValue}
use Rattle.vortex_base.specs.Data.Columns.{ColumnData}
use Rattle.vortex_base.specs.Data.Values.{value_cmp}
use Rattle.vortex_stats.specs.declared.stat.Stat.{Stat}
use Rattle.vortex_stats.specs.declared.stat.Stat.TheVariants.{IsConstant, IsSorted, IsStrictSorted, Max, Min, Sum, NullCount, UncompressedSizeInBytes, NaNCount}
use Rattle.vortex_stats.specs.declared.precision.Precision.{Precision}
use Rattle.vortex_stats.specs.declared.precision.Precision.TheVariants.{Exact, Inexact, Absent}
use Rattle.vortex_stats.specs.Sets.Claims.{Claims, IsTrueOf}
use Rattle.vortex_stats.specs.Sets.Entries.{entry_value, with_entry, without_entry, retained_entries, value_fits}
use Rattle.vortex_stats.specs.Precision.{inexact_of}
use Rattle.vortex_stats.specs.Stat.{stat_eq, same_from_stat_eq}
use Rattle.vortex_stats.proofs.Merging.Constants.{truth_of_inexact}
use Rattle.vortex_stats.proofs.Merging.Counts.{count_of_inexact}
use Rattle.vortex_stats.proofs.Merging.Extremes.{greatest_of_inexact}
use Rattle.vortex_stats.proofs.Sets.Fitting.{entry_value-fits, entries_fit_with_entry, entries_fit_filter}
use Rattle.vortex_stats.proofs.Sets.Lookups.{entry_value-dropped, entry_value-kept, entry_value-with_own, entry_value-with_other}
use Rattle.vortex_stats.proofs.Truth.MergedTruth.{absent_claims}
use Rattle.vortex_stats.proofs.Merging.Sums.{sum_of_inexact}

module _ (keeps : Stat → Bool) (es : List (Stat × Precision ScalarValue)) (c : ColumnData) where
  kept_claims : (s : Stat) (b : Bool) → keeps s ≡ b → Claims s (entry_value s es) c → Claims s (entry_value s (filter (λ e. keeps e.0) es)) c
  kept_claims s true k h = subst (λ p. Claims s p c) (sym (entry_value-kept keeps s es k)) h
  kept_claims s false k h = subst (λ p. Claims s p c) (sym (entry_value-dropped keeps s es k)) (absent_claims s c)

  -- with the entries of some statistics alone
  kept_is_true : IsTrueOf es c → IsTrueOf (filter (λ e. keeps e.0) es) c
  kept_is_true h = record {
    fits = entries_fit_filter (λ e. keeps e.0) c.dtype es h.fits;
    claims = λ s. kept_claims s (keeps s) refl (h.claims s);
  }

pub without_entry_is_true : (s : Stat) (es : List (Stat × Precision ScalarValue)) (c : ColumnData) → IsTrueOf es c → IsTrueOf (without_entry s es) c
without_entry_is_true s es c h = kept_is_true (λ t. not (stat_eq t s)) es c h

pub retained_entries_are_true : (stats : List Stat) (es : List (Stat × Precision ScalarValue)) (c : ColumnData) → IsTrueOf es c → IsTrueOf (retained_entries stats es) c
retained_entries_are_true stats es c h = kept_is_true (λ t. list_any (λ s. stat_eq t s) stats) es c h

written_claims : (s t : Stat) (p : Precision ScalarValue) (es : List (Stat × Precision ScalarValue)) (c : ColumnData) → Claims s p c → Claims t (entry_value t es) c → (b : Bool) → stat_eq s t ≡ b
    → Claims t (entry_value t (with_entry s p es)) c
written_claims s t p es c h k true e = subst (λ r. Claims r (entry_value r (with_entry s p es)) c) (same_from_stat_eq s t e) (subst (λ q. Claims s q c) (sym (entry_value-with_own s p es)) h)
written_claims s t p es c h k false e = subst (λ q. Claims t q c) (sym (entry_value-with_other s t p es e)) k

-- with a value that fits and has its claim
pub with_entry_is_true : (s : Stat) (p : Precision ScalarValue) (es : List (Stat × Precision ScalarValue)) (c : ColumnData) → IsTrueOf es c → value_fits s c.dtype p ≡ true → Claims s p c
    → IsTrueOf (with_entry s p es) c
with_entry_is_true s p es c h f k = record {
  fits = entries_fit_with_entry s p c.dtype es f h.fits;
  claims = λ t. written_claims s t p es c k (h.claims t) (stat_eq s t) refl;
}

inexact_fits : (s : Stat) (t : DType) (p : Precision ScalarValue) → value_fits s t p ≡ true → value_fits s t (inexact_of p) ≡ true
inexact_fits s t (Exact v) h = h
inexact_fits s t (Inexact v) h = h
inexact_fits s t Absent h = h

inexact_claims : (s : Stat) (p : Precision ScalarValue) (c : ColumnData) → Claims s p c → Claims s (inexact_of p) c
inexact_claims IsConstant p c h = truth_of_inexact p _
inexact_claims IsSorted p c h = truth_of_inexact p _
inexact_claims IsStrictSorted p c h = truth_of_inexact p _
inexact_claims Max p c h = greatest_of_inexact value_cmp p c.values h
inexact_claims Min p c h = greatest_of_inexact (flip_args value_cmp) p c.values h
inexact_claims Sum p c h = sum_of_inexact p _
inexact_claims NullCount p c h = count_of_inexact p _ h
inexact_claims UncompressedSizeInBytes p c h = count_of_inexact p _ h
inexact_claims NaNCount p c h = tt

pub inexact_entry_is_true : (s : Stat) (es : List (Stat × Precision ScalarValue)) (c : ColumnData) → IsTrueOf es c → IsTrueOf (with_entry s (inexact_of (entry_value s es)) es) c
inexact_entry_is_true s es c h =
    with_entry_is_true s (inexact_of (entry_value s es)) es c h
    (inexact_fits s c.dtype (entry_value s es) (entry_value-fits s c.dtype es h.fits)) (inexact_claims s (entry_value s es) c (h.claims s))
