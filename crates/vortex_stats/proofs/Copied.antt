-- Copies of texts and bytes: in a merge, in a combination's step, and none in columns of other types.
use Rattle.std.proofs.Common.{◌≡◌, Bool, true, false, not, List, [], ◌∷◌, Option, Some, None, Result, Ok, Err, refl, sym, ap, ◌∙◌}
use Rattle.std.specs.Prelude.{IsTrue, IfSome, OnErr, ⊤}
use mathlib.Core.Bool.{true≢false}
use Rattle.vortex_base.specs.declared.dtype.DType.{DType}
use Rattle.vortex_base.specs.declared.dtype.DType.TheVariants as dtype
use Rattle.vortex_base.specs.declared.scalar_value.ScalarValue.{ScalarValue}
use Rattle.vortex_base.specs.declared.scalar_value.ScalarValue.TheVariants as value
use Rattle.vortex_base.specs.Data.Scalars.{is_long}
use Rattle.vortex_base.specs.Data.Values.{value_cmp}
use Rattle.vortex_stats.specs.declared.bound.IntersectionResult.{IntersectionResult}
use Rattle.vortex_stats.specs.declared.bound.IntersectionResult.TheVariants.{Value, Empty}
use Rattle.vortex_stats.specs.declared.precision.Precision.{Precision}
use Rattle.vortex_stats.specs.declared.precision.Precision.TheVariants.{Exact, Inexact, Absent}
use Rattle.vortex_stats.specs.declared.stat.Stat.{Stat}
use Rattle.vortex_stats.specs.declared.stat.Stat.TheVariants.{IsConstant, IsSorted, IsStrictSorted, Max, Min, Sum, NullCount, UncompressedSizeInBytes, NaNCount}
use Rattle.vortex_stats.specs.Merging.Combined.{combined_entry, intersection_of}
use Rattle.vortex_stats.specs.Copies.{is_copied, are_same, is_bound_copied, merge_copies, is_meeting_copied, entry_copies, unless_conflict, combination_copies, holds_long}
use Rattle.vortex_stats.specs.Sets.Entries.{entry_value, is_value_of, value_fits, entries_fit}
use Rattle.vortex_stats.specs.Merging.Merges.{merged_value}
use Rattle.vortex_stats.specs.Precision.{IfPresent}
use Rattle.vortex_stats.specs.Stat.{stat_dtype}
use Rattle.vortex_stats.proofs.Merging.Combining.{OfType, IfMet, present-fits, intersection_of-either, combined_entry-fits}
use Rattle.vortex_stats.proofs.Sets.Fitting.{entry_value-fits, front_fits, rest_fits}
use Rattle.vortex_stats.proofs.Logic.{and_second_false, or_left, or_right, or_false}
use Rattle.vortex_stats.proofs.Merging.MergedFits.{merged_value-fits}

-- ---- merges

pub bound_copied-same : {A E : Type 0} (r : Result A E) (p q : Precision ScalarValue) (o u : Option (Precision ScalarValue)) → p ≡ q → o ≡ u
    → OnErr r (IsTrue (is_bound_copied p o)) → OnErr r (IsTrue (is_bound_copied q u))
bound_copied-same (Ok a) p q o u e f h = tt
bound_copied-same (Err x) p q o u e f h = sym (ap (λ y. is_bound_copied y o) e ∙ ap (is_bound_copied q) f) ∙ h

-- ---- the steps of a combination

-- an entry that copies is a copy of the combination
pub copies_here : (es : List (Stat × Precision ScalarValue)) (e : Stat × Precision ScalarValue) (rest : List (Stat × Precision ScalarValue)) (p : Precision ScalarValue)
    → p ≡ entry_value e.0 es → IsTrue (entry_copies e.0 p e.1) → IsTrue (combination_copies es (e ∷ rest))
copies_here es e rest p found h =
    or_left (entry_copies e.0 (entry_value e.0 es) e.1) _ (ap (λ q. entry_copies e.0 q e.1) (sym found) ∙ h)

-- and so is one that copies later
pub copies_later : (es new : List (Stat × Precision ScalarValue)) (e : Stat × Precision ScalarValue) (rest : List (Stat × Precision ScalarValue))
    → combined_entry es e ≡ Some new → IsTrue (combination_copies new rest) → IsTrue (combination_copies es (e ∷ rest))
copies_later es new e rest step h =
    or_right (entry_copies e.0 (entry_value e.0 es) e.1) _ (ap (λ o. unless_conflict o (λ n. combination_copies n rest)) step ∙ h)

-- ---- columns without texts and bytes

-- the type, if there is one, has no text and no bytes
abbrev IsShort : Option DType → Type 0
IsShort o = IfSome o (λ t. holds_long t ≡ false)

short_value : (o : Option DType) (v : ScalarValue) → IsShort o → is_value_of o v ≡ true → is_long (Some v) ≡ false
short_value None v n h = absurd (true≢false (sym h))
short_value (Some t) (value.Bool b) n h = refl
short_value (Some t) (value.Primitive p) n h = refl
short_value (Some (dtype.Utf8 m)) (value.Utf8 x) n h = absurd (true≢false n)
short_value (Some (dtype.Binary m)) (value.Binary x) n h = absurd (true≢false n)
short_value (Some t) v n h = absurd (true≢false (sym h))

module _ (t : DType) (n : holds_long t ≡ false) where
  short_extreme : (u : DType) → holds_long u ≡ false → IsShort (stat_dtype Max u)
  short_extreme dtype.Null h = tt
  short_extreme u h = h

  short_sum : (u : DType) → IsShort (stat_dtype Sum u)
  short_sum (dtype.Bool m) = refl
  short_sum (dtype.Primitive p m) = refl
  short_sum u = tt

  short_stat : (s : Stat) → IsShort (stat_dtype s t)
  short_stat IsConstant = refl
  short_stat IsSorted = refl
  short_stat IsStrictSorted = refl
  short_stat Max = short_extreme t n
  short_stat Min = short_extreme t n
  short_stat Sum = short_sum t
  short_stat NullCount = refl
  short_stat UncompressedSizeInBytes = refl
  short_stat NaNCount = tt

  -- a value that fits its statistic is no text and no bytes
  short_present : (s : Stat) (p : Precision ScalarValue) → IfPresent p (OfType t s) → is_copied p ≡ false
  short_present s (Exact v) h = short_value (stat_dtype s t) v (short_stat s) h
  short_present s (Inexact v) h = short_value (stat_dtype s t) v (short_stat s) h
  short_present s Absent h = refl

  short_fitting : (s : Stat) (p : Precision ScalarValue) → value_fits s t p ≡ true → is_copied p ≡ false
  short_fitting s p h = short_present s p (present-fits t s p h)

  bound_not_copied : (s : Stat) (p : Precision ScalarValue) (o : Option (Precision ScalarValue)) → IfSome o (λ q. value_fits s t q ≡ true) → is_bound_copied p o ≡ false
  bound_not_copied s p None h = refl
  bound_not_copied s p (Some q) h = and_second_false (not (are_same q p)) (is_copied q) (short_fitting s q h)

  -- a merge copies nothing
  pub merge_copies-short : (a b : List (Stat × Precision ScalarValue)) → entries_fit a t ≡ true → entries_fit b t ≡ true → merge_copies a b ≡ false
  merge_copies-short a b h k =
      or_false (is_bound_copied (entry_value Max a) (merged_value Max a b)) (is_bound_copied (entry_value Min a) (merged_value Min a b))
      (bound_not_copied Max (entry_value Max a) (merged_value Max a b) (merged_value-fits t a b h k Max))
      (bound_not_copied Min (entry_value Min a) (merged_value Min a b) (merged_value-fits t a b h k Min))

  meeting_not_copied : (s : Stat) (m : Option (IntersectionResult (Precision ScalarValue))) → IfMet (OfType t s) value_cmp m → is_meeting_copied m ≡ false
  meeting_not_copied s (Some (Value p)) h = short_present s p h
  meeting_not_copied s (Some Empty) h = refl
  meeting_not_copied s None h = refl

  entry_not_copied : (s : Stat) (p q : Precision ScalarValue) → value_fits s t p ≡ true → value_fits s t q ≡ true → entry_copies s p q ≡ false
  entry_not_copied s Absent q h k = short_fitting s q k
  entry_not_copied s (Exact v) Absent h k = refl
  entry_not_copied s (Inexact v) Absent h k = refl
  entry_not_copied s (Exact v) (Exact w) h k =
      meeting_not_copied s (intersection_of s (Exact v) (Exact w)) (intersection_of-either (OfType t s) s (Exact v) (Exact w) h k)
  entry_not_copied s (Exact v) (Inexact w) h k =
      meeting_not_copied s (intersection_of s (Exact v) (Inexact w)) (intersection_of-either (OfType t s) s (Exact v) (Inexact w) h k)
  entry_not_copied s (Inexact v) (Exact w) h k =
      meeting_not_copied s (intersection_of s (Inexact v) (Exact w)) (intersection_of-either (OfType t s) s (Inexact v) (Exact w) h k)
  entry_not_copied s (Inexact v) (Inexact w) h k =
      meeting_not_copied s (intersection_of s (Inexact v) (Inexact w)) (intersection_of-either (OfType t s) s (Inexact v) (Inexact w) h k)

  unless_none : (o : Option (List (Stat × Precision ScalarValue))) (rest : List (Stat × Precision ScalarValue) → Bool)
      → ((new : List (Stat × Precision ScalarValue)) → o ≡ Some new → rest new ≡ false) → unless_conflict o rest ≡ false
  unless_none None rest f = refl
  unless_none (Some new) rest f = f new refl

  -- a combination copies nothing
  pub combination_copies-short : (a b : List (Stat × Precision ScalarValue)) → entries_fit a t ≡ true → entries_fit b t ≡ true → combination_copies a b ≡ false
  combination_copies-short a [] h k = refl
  combination_copies-short a (e ∷ rest) h k =
      or_false (entry_copies e.0 (entry_value e.0 a) e.1) _
      (entry_not_copied e.0 (entry_value e.0 a) e.1 (entry_value-fits e.0 t a h) (front_fits t e rest k))
      (unless_none (combined_entry a e) (λ new. combination_copies new rest)
      (λ new step. combination_copies-short new rest (combined_entry-fits t a new e h (front_fits t e rest k) step) (rest_fits t e rest k)))
