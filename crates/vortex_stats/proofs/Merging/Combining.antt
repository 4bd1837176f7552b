-- One step of a combination, by its cases.
use Rattle.std.proofs.Common.{◌≡◌, Bool, true, false, List, [], ◌∷◌, Option, Some, None, Result, Ok, Err, refl, sym, ap, subst, ◌∙◌}
use Rattle.std.specs.Prelude.{IsTrue, IsErrAnd, ⊤}
use Rattle.std.specs.Option.{option_map}
use Rattle.std.specs.declared.cmp.Ordering.{Ordering}
use Rattle.std.specs.Ordering.{is_lt, is_eq, bool_cmp, flip_args}
use mathlib.Core.Bool.{true≢false}
use Rattle.vortex_base.specs.declared.dtype.DType.{DType}
use Rattle.vortex_base.specs.declared.scalar_value.ScalarValue.{ScalarValue}
use Rattle.vortex_base.specs.declared.scalar_value.ScalarValue.TheVariants as value
use Rattle.vortex_base.specs.Data.Values.{value_cmp}
use Rattle.vortex_stats.specs.declared.bound.IntersectionResult.{IntersectionResult}
use Rattle.vortex_stats.specs.declared.bound.IntersectionResult.TheVariants.{Value, Empty}
use Rattle.vortex_stats.specs.declared.error.StatsError.{StatsError}
use Rattle.vortex_stats.specs.declared.error.StatsError.TheVariants as errors
use Rattle.vortex_stats.specs.declared.precision.Precision.{Precision}
use Rattle.vortex_stats.specs.declared.precision.Precision.TheVariants.{Exact, Inexact, Absent}
use Rattle.vortex_stats.specs.declared.stat.Stat.{Stat}
use Rattle.vortex_stats.specs.declared.stat.Stat.TheVariants.{IsConstant, IsSorted, IsStrictSorted, Max, Min, Sum, NullCount, UncompressedSizeInBytes, NaNCount}
use Rattle.vortex_stats.specs.Bounds.Bound.{intersection_map}
use Rattle.vortex_stats.specs.Merging.Combined.{intersection_of, met, combined_by, combined_entry, or_conflict, combined}
use Rattle.vortex_stats.specs.Merging.CombineSteps.{truth_value, meeting, is_answer_copied, IsAnswerOrCopy, IsChange}
use Rattle.vortex_stats.specs.Copies.{is_copied, is_meeting_copied, entry_copies}
use Rattle.vortex_stats.specs.declared.merge.Change.{Change}
use Rattle.vortex_stats.specs.Sets.Entries.{entry_value, is_value_of, value_fits, entries_fit, with_entry}
use Rattle.vortex_stats.specs.Bounds.LowerBound.{lower_intersection}
use Rattle.vortex_stats.specs.Bounds.PointBound.{point_intersection}
use Rattle.vortex_stats.specs.Precision.{is_absent, precision_map, IfPresent}
use Rattle.vortex_stats.specs.Stat.{stat_dtype}
use Rattle.vortex_stats.specs.Bounds.UpperBound.{upper_intersection}
use Rattle.vortex_stats.proofs.Bounds.DerivedOrder.{point_intersection-read}
use Rattle.vortex_stats.proofs.Sets.Fitting.{entry_value-fits, entries_fit_with_entry, entries_fit_filter}
use Rattle.vortex_stats.proofs.Logic.{either}

-- ---- truth values

-- a value that fits IsConstant holds a truth
truth_value-fits : (t : DType) (p : Precision ScalarValue) → value_fits IsConstant t p ≡ true → precision_map value.Bool (truth_value p) ≡ p
truth_value-fits t (Exact (value.Bool b)) h = refl
truth_value-fits t (Exact v) h = absurd (true≢false (sym h))
truth_value-fits t (Inexact (value.Bool b)) h = refl
truth_value-fits t (Inexact v) h = absurd (true≢false (sym h))
truth_value-fits t Absent h = refl

pub point_intersection-truths : (t : DType) (p q : Precision ScalarValue) → value_fits IsConstant t p ≡ true → value_fits IsConstant t q ≡ true
    → option_map (intersection_map (precision_map value.Bool)) (point_intersection bool_cmp (truth_value p) (truth_value q)) ≡ point_intersection value_cmp p q
point_intersection-truths t p q h k =
    point_intersection-read value.Bool (truth_value p) (truth_value q)
    ∙ ap (λ u. point_intersection value_cmp u (precision_map value.Bool (truth_value q))) (truth_value-fits t p h) ∙ ap (λ u. point_intersection value_cmp p u) (truth_value-fits t q k)

-- ---- one step

pub absent_map : {A B : Type 0} (f : A → B) (p : Precision A) → is_absent (precision_map f p) ≡ is_absent p
absent_map f (Exact v) = refl
absent_map f (Inexact v) = refl
absent_map f Absent = refl

met_case : (s : Stat) (p q : Precision ScalarValue) (es : List (Stat × Precision ScalarValue)) → is_absent p ≡ false → is_absent q ≡ false
    → combined_by s p q es ≡ met s (intersection_of s p q) es
met_case s (Exact a) (Exact b) es h k = refl
met_case s (Exact a) (Inexact b) es h k = refl
met_case s (Inexact a) (Exact b) es h k = refl
met_case s (Inexact a) (Inexact b) es h k = refl
met_case s (Exact a) Absent es h k = absurd (true≢false k)
met_case s (Inexact a) Absent es h k = absurd (true≢false k)
met_case s Absent q es h k = absurd (true≢false h)

written_step : (m : Option (IntersectionResult (Precision ScalarValue))) (s : Stat) (es : List (Stat × Precision ScalarValue)) (r : Precision ScalarValue)
    → meeting s m ≡ Ok (Some r) → met s m es ≡ Some (with_entry s r es)
written_step (Some (Value v)) s es r h = let e : v ≡ r = cc in ap (λ x. Some (with_entry s x es)) e
written_step (Some Empty) s es r h = absurd (cc)
written_step None s es r h = absurd (cc)

kept_step : (m : Option (IntersectionResult (Precision ScalarValue))) (s : Stat) (es : List (Stat × Precision ScalarValue)) → meeting s m ≡ Ok None → met s m es ≡ Some es
kept_step (Some (Value v)) s es h = absurd (cc)
kept_step (Some Empty) s es h = absurd (cc)
kept_step None s es h = refl

-- where the left has no value, the right's is copied
pub absent_copies : (s : Stat) (p q : Precision ScalarValue) → is_absent p ≡ true → IsTrue (is_copied q) → IsTrue (entry_copies s p q)
absent_copies s (Exact v) q a h = absurd (true≢false (sym a))
absent_copies s (Inexact v) q a h = absurd (true≢false (sym a))
absent_copies s Absent q a h = h

answer_copied-meeting : (s : Stat) (m : Option (IntersectionResult (Precision ScalarValue))) → is_answer_copied (meeting s m) ≡ is_meeting_copied m
answer_copied-meeting s (Some (Value p)) = refl
answer_copied-meeting s (Some Empty) = refl
answer_copied-meeting s None = refl

-- of two that are present it is what they meet in
meeting_copies : (s : Stat) (p q : Precision ScalarValue) → is_absent p ≡ false → is_absent q ≡ false
    → IsTrue (is_answer_copied (meeting s (intersection_of s p q))) → IsTrue (entry_copies s p q)
meeting_copies s Absent q a b h = absurd (true≢false a)
meeting_copies s (Exact v) Absent a b h = absurd (true≢false b)
meeting_copies s (Inexact v) Absent a b h = absurd (true≢false b)
meeting_copies s (Exact v) (Exact w) a b h = sym (answer_copied-meeting s (intersection_of s (Exact v) (Exact w))) ∙ h
meeting_copies s (Exact v) (Inexact w) a b h = sym (answer_copied-meeting s (intersection_of s (Exact v) (Inexact w))) ∙ h
meeting_copies s (Inexact v) (Exact w) a b h = sym (answer_copied-meeting s (intersection_of s (Inexact v) (Exact w))) ∙ h
meeting_copies s (Inexact v) (Inexact w) a b h = sym (answer_copied-meeting s (intersection_of s (Inexact v) (Inexact w))) ∙ h

refused_by : (m : Option (IntersectionResult (Precision ScalarValue))) (s : Stat) (p q : Precision ScalarValue)
    → ((es : List (Stat × Precision ScalarValue)) → combined_by s p q es ≡ met s m es) → (IsTrue (is_answer_copied (meeting s m)) → IsTrue (entry_copies s p q))
    → (e : StatsError) → IsAnswerOrCopy (meeting s m) (Err e) → IsChange s p q (Err e)
refused_by m s p q f g (errors.Memory e) h = g h
refused_by (Some (Value v)) s p q f g (errors.Conflict t) h = absurd (cc)
refused_by (Some Empty) s p q f g (errors.Conflict t) h = let e : t ≡ s = cc in (f, e)
refused_by None s p q f g (errors.Conflict t) h = absurd (cc)
refused_by (Some (Value v)) s p q f g e h = cc
refused_by (Some Empty) s p q f g e h = cc
refused_by None s p q f g e h = cc

module _ (s : Stat) (left other q : Precision ScalarValue) (b : other ≡ q) (h : is_absent left ≡ false) (k : is_absent other ≡ false) where
  met_at : (es : List (Stat × Precision ScalarValue)) → combined_by s left q es ≡ met s (intersection_of s left other) es
  met_at es = met_case s left q es h (ap is_absent (sym b) ∙ k) ∙ ap (λ y. met s (intersection_of s left y) es) (sym b)

  pub met_written : (r : Precision ScalarValue) → meeting s (intersection_of s left other) ≡ Ok (Some r)
      → (es : List (Stat × Precision ScalarValue)) → combined_by s left q es ≡ Some (with_entry s r es)
  met_written r m es = met_at es ∙ written_step (intersection_of s left other) s es r m

  pub met_kept : meeting s (intersection_of s left other) ≡ Ok None → (es : List (Stat × Precision ScalarValue)) → combined_by s left q es ≡ Some es
  met_kept m es = met_at es ∙ kept_step (intersection_of s left other) s es m

  copied_at : IsTrue (is_answer_copied (meeting s (intersection_of s left other))) → IsTrue (entry_copies s left q)
  copied_at m = subst (λ y. IsTrue (entry_copies s left y)) b (meeting_copies s left other h k m)

  pub met_refused : (e : StatsError) → IsAnswerOrCopy (meeting s (intersection_of s left other)) (Err e) → IsChange s left q (Err e)
  met_refused e m = refused_by (intersection_of s left other) s left q met_at copied_at e m

-- a refusal that is handed on
pub refused_with : (s : Stat) (p q : Precision ScalarValue) (r : Result Change StatsError) (x : StatsError) → IsErrAnd r (λ e. e ≡ x) → IsChange s p q (Err x) → IsChange s p q r
refused_with s p q (Ok c) x h k = absurd h
refused_with s p q (Err e) x h k = subst (λ y. IsChange s p q (Err y)) (sym h) k

-- the steps that are left, after one
pub combined-step : (es new : List (Stat × Precision ScalarValue)) (e : Stat × Precision ScalarValue) (rest : List (Stat × Precision ScalarValue))
    → combined_entry es e ≡ Some new → combined es (e ∷ rest) ≡ combined new rest
combined-step es new e rest h = ap (λ o. or_conflict o es e.0 (λ n. combined n rest)) h

-- ---- fitting

-- an intersection holds an operand's value
module _ (Q : ScalarValue → Type 0) (R : ScalarValue → ScalarValue → Ordering) where
  abbrev pub OfMet : IntersectionResult (Precision ScalarValue) → Type 0
  OfMet (Value r) = IfPresent r Q
  OfMet Empty = ⊤

  abbrev pub IfMet : Option (IntersectionResult (Precision ScalarValue)) → Type 0
  IfMet None = ⊤
  IfMet (Some m) = OfMet m

  upper_intersection-either : (p q : Precision ScalarValue) → IfPresent p Q → IfPresent q Q → IfMet (upper_intersection R p q)
  upper_intersection-either (Exact a) (Exact b) h k = either OfMet (is_eq (R a b)) (Value (Exact a)) Empty h tt
  upper_intersection-either (Exact e) (Inexact i) h k = either OfMet (is_lt (R i e)) Empty (Value (Exact e)) tt h
  upper_intersection-either (Exact e) Absent h k = tt
  upper_intersection-either (Inexact i) (Exact e) h k = either OfMet (is_lt (R i e)) Empty (Value (Exact e)) tt k
  upper_intersection-either (Inexact a) (Inexact b) h k = either Q (is_lt (R b a)) b a k h
  upper_intersection-either (Inexact i) Absent h k = tt
  upper_intersection-either Absent q h k = tt

  point_intersection-either : (p q : Precision ScalarValue) → IfPresent p Q → IfPresent q Q → IfMet (point_intersection R p q)
  point_intersection-either (Exact a) (Exact b) h k = either OfMet (is_eq (R a b)) (Value (Exact a)) Empty h tt
  point_intersection-either (Exact e) (Inexact i) h k = either (λ r. IfPresent r Q) (is_lt (R e i)) (Inexact e) (Exact e) h h
  point_intersection-either (Exact e) Absent h k = tt
  point_intersection-either (Inexact i) (Exact e) h k = either (λ r. IfPresent r Q) (is_lt (R e i)) (Inexact e) (Exact e) k k
  point_intersection-either (Inexact a) (Inexact b) h k = either Q (is_lt (R b a)) b a k h
  point_intersection-either (Inexact i) Absent h k = tt
  point_intersection-either Absent q h k = tt

lower_intersection-either : (Q : ScalarValue → Type 0) (R : ScalarValue → ScalarValue → Ordering) (p q : Precision ScalarValue) → IfPresent p Q → IfPresent q Q → IfMet Q R (lower_intersection R p q)
lower_intersection-either Q R = upper_intersection-either Q (flip_args R)

pub intersection_of-either : (Q : ScalarValue → Type 0) (s : Stat) (p q : Precision ScalarValue) → IfPresent p Q → IfPresent q Q → IfMet Q value_cmp (intersection_of s p q)
intersection_of-either Q IsConstant = point_intersection-either Q value_cmp
intersection_of-either Q IsSorted = point_intersection-either Q value_cmp
intersection_of-either Q IsStrictSorted = point_intersection-either Q value_cmp
intersection_of-either Q Max = upper_intersection-either Q value_cmp
intersection_of-either Q Min = lower_intersection-either Q value_cmp
intersection_of-either Q Sum = point_intersection-either Q value_cmp
intersection_of-either Q NullCount = upper_intersection-either Q value_cmp
intersection_of-either Q UncompressedSizeInBytes = upper_intersection-either Q value_cmp
intersection_of-either Q NaNCount = upper_intersection-either Q value_cmp

module _ (t : DType) where
  abbrev pub OfType : Stat → ScalarValue → Type 0
  OfType s v = is_value_of (stat_dtype s t) v ≡ true

  pub present-fits : (s : Stat) (p : Precision ScalarValue) → value_fits s t p ≡ true → IfPresent p (OfType s)
  present-fits s (Exact v) h = h
  present-fits s (Inexact v) h = h
  present-fits s Absent h = tt

  fits-present : (s : Stat) (p : Precision ScalarValue) → IfPresent p (OfType s) → value_fits s t p ≡ true
  fits-present s (Exact v) h = h
  fits-present s (Inexact v) h = h
  fits-present s Absent h = refl

  -- the entries, if there is no conflict, fit
  abbrev IfEntriesFit : Option (List (Stat × Precision ScalarValue)) → Type 0
  IfEntriesFit None = ⊤
  IfEntriesFit (Some es) = entries_fit es t ≡ true

  met-fits : (s : Stat) (m : Option (IntersectionResult (Precision ScalarValue))) (es : List (Stat × Precision ScalarValue)) → IfMet (OfType s) value_cmp m → entries_fit es t ≡ true
      → IfEntriesFit (met s m es)
  met-fits s (Some (Value r)) es f h = entries_fit_with_entry s r t es (fits-present s r f) h
  met-fits s (Some Empty) es f h = tt
  met-fits s None es f h = h

  combined_by-fits : (s : Stat) (p q : Precision ScalarValue) (es : List (Stat × Precision ScalarValue)) → value_fits s t p ≡ true → value_fits s t q ≡ true → entries_fit es t ≡ true
      → IfEntriesFit (combined_by s p q es)
  combined_by-fits s Absent Absent es f g h = entries_fit_filter _ t es h
  combined_by-fits s Absent (Exact v) es f g h = entries_fit_with_entry s (Exact v) t es g h
  combined_by-fits s Absent (Inexact v) es f g h = entries_fit_with_entry s (Inexact v) t es g h
  combined_by-fits s (Exact u) Absent es f g h = h
  combined_by-fits s (Inexact u) Absent es f g h = h
  combined_by-fits s (Exact u) (Exact v) es f g h = met-fits s (intersection_of s (Exact u) (Exact v)) es (intersection_of-either (OfType s) s (Exact u) (Exact v) f g) h
  combined_by-fits s (Exact u) (Inexact v) es f g h = met-fits s (intersection_of s (Exact u) (Inexact v)) es (intersection_of-either (OfType s) s (Exact u) (Inexact v) f g) h
  combined_by-fits s (Inexact u) (Exact v) es f g h = met-fits s (intersection_of s (Inexact u) (Exact v)) es (intersection_of-either (OfType s) s (Inexact u) (Exact v) f g) h
  combined_by-fits s (Inexact u) (Inexact v) es f g h = met-fits s (intersection_of s (Inexact u) (Inexact v)) es (intersection_of-either (OfType s) s (Inexact u) (Inexact v) f g) h

  -- a step keeps entries that fit
  pub combined_entry-fits : (es new : List (Stat × Precision ScalarValue)) (e : Stat × Precision ScalarValue) → entries_fit es t ≡ true → value_fits e.0 t e.1 ≡ true
      → combined_entry es e ≡ Some new → entries_fit new t ≡ true
  combined_entry-fits es new e h k i = subst IfEntriesFit i (combined_by-fits e.0 (entry_value e.0 es) e.1 es (entry_value-fits e.0 t es h) k h)
