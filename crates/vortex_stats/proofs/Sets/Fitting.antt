-- What is known of the values of a set that fits.
use Rattle.std.proofs.Common.{◌≡◌, Bool, true, false, cond, ◌&&◌, List, [], ◌∷◌, Some, None, refl, sym, ap, subst, ◌∙◌}
use Rattle.std.specs.Prelude.{IsTrue}
use Rattle.std.specs.List.{filter}
use mathlib.Core.Bool.{true≢false}
use Rattle.vortex_base.specs.declared.dtype.DType.{DType}
use Rattle.vortex_base.specs.declared.scalar_value.ScalarValue.{ScalarValue}
use Rattle.vortex_base.specs.Data.Values.{is_value}
use Rattle.vortex_stats.specs.declared.stat.Stat.{Stat}
use Rattle.vortex_stats.specs.declared.precision.Precision.{Precision}
use Rattle.vortex_stats.specs.declared.precision.Precision.TheVariants.{Exact, Inexact, Absent}
use Rattle.vortex_stats.specs.Precision.{precision_map, IfPresent}
use Rattle.vortex_stats.specs.Stat.{stat_dtype, same_from_stat_eq}
use Rattle.vortex_stats.specs.Sets.Entries.{is_entry_of, entry_value, with_entry, is_value_of, value_fits, entries_fit}
use Rattle.vortex_stats.proofs.Logic.{and_first, and_second}

found_fits : (s : Stat) (t : DType) (e : Stat × Precision ScalarValue) (p : Precision ScalarValue) (b : Bool) → is_entry_of s e ≡ b
    → value_fits e.0 t e.1 ≡ true → value_fits s t p ≡ true → value_fits s t (cond b e.1 p) ≡ true
found_fits s t e p true h f g = subst (λ r. value_fits r t e.1 ≡ true) (same_from_stat_eq e.0 s h) f
found_fits s t e p false h f g = g

-- the value of a statistic of a set that fits is one of the statistic's type
pub entry_value-fits : (s : Stat) (t : DType) (es : List (Stat × Precision ScalarValue)) → entries_fit es t ≡ true → value_fits s t (entry_value s es) ≡ true
entry_value-fits s t [] h = refl
entry_value-fits s t (e ∷ es) h =
    found_fits s t e (entry_value s es) (is_entry_of s e) refl
    (and_first (value_fits e.0 t e.1) (entries_fit es t) h)
    (entry_value-fits s t es (and_second (value_fits e.0 t e.1) (entries_fit es t) h))

module _ {B : Type 0} (f : B → ScalarValue) where
  present_by_type : (s : Stat) (t d : DType) (p : Precision B) → stat_dtype s t ≡ Some d → value_fits s t (precision_map f p) ≡ true → IfPresent p (λ v. IsTrue (is_value (f v) d))
  present_by_type s t d (Exact v) e h = subst (λ o. is_value_of o (f v) ≡ true) e h
  present_by_type s t d (Inexact v) e h = subst (λ o. is_value_of o (f v) ≡ true) e h
  present_by_type s t d Absent e h = tt

  absent_by_type : (s : Stat) (t : DType) (p : Precision B) → stat_dtype s t ≡ None → value_fits s t (precision_map f p) ≡ true → p ≡ Absent
  absent_by_type s t (Exact v) e h = absurd (true≢false (sym h ∙ ap (λ o. is_value_of o (f v)) e))
  absent_by_type s t (Inexact v) e h = absurd (true≢false (sym h ∙ ap (λ o. is_value_of o (f v)) e))
  absent_by_type s t Absent e h = refl

  -- what was found is a value of the statistic's type
  pub found_is_value : (s : Stat) (t d : DType) (es : List (Stat × Precision ScalarValue)) (p : Precision B) → entries_fit es t ≡ true → precision_map f p ≡ entry_value s es
      → stat_dtype s t ≡ Some d → IfPresent p (λ v. IsTrue (is_value (f v) d))
  found_is_value s t d es p h e k = present_by_type s t d p k (ap (value_fits s t) e ∙ entry_value-fits s t es h)

-- a set that fits does so with a value that fits
set_step : (s : Stat) (p : Precision ScalarValue) (t : DType) (e : Stat × Precision ScalarValue) (es : List (Stat × Precision ScalarValue)) (b : Bool)
    → value_fits s t p ≡ true → (value_fits e.0 t e.1 && entries_fit es t) ≡ true → entries_fit (with_entry s p es) t ≡ true
    → entries_fit (cond b ((s, p) ∷ es) (e ∷ with_entry s p es)) t ≡ true
set_step s p t e es true f h ih = ap (λ b. b && entries_fit es t) f ∙ and_second (value_fits e.0 t e.1) (entries_fit es t) h
set_step s p t e es false f h ih = ap (λ b. b && entries_fit (with_entry s p es) t) (and_first (value_fits e.0 t e.1) (entries_fit es t) h) ∙ ih

pub entries_fit_with_entry : (s : Stat) (p : Precision ScalarValue) (t : DType) (es : List (Stat × Precision ScalarValue)) → value_fits s t p ≡ true → entries_fit es t ≡ true
    → entries_fit (with_entry s p es) t ≡ true
entries_fit_with_entry s p t [] f h = ap (λ b. b && true) f
entries_fit_with_entry s p t (e ∷ es) f h =
    set_step s p t e es (is_entry_of s e) f h (entries_fit_with_entry s p t es f (and_second (value_fits e.0 t e.1) (entries_fit es t) h))

-- a set that fits does so with entries left out
left_out_step : (test : Stat × Precision ScalarValue → Bool) (t : DType) (e : Stat × Precision ScalarValue) (es : List (Stat × Precision ScalarValue)) (b : Bool)
    → (value_fits e.0 t e.1 && entries_fit es t) ≡ true → entries_fit (filter test es) t ≡ true → entries_fit (cond b (e ∷ filter test es) (filter test es)) t ≡ true
left_out_step test t e es true h ih = ap (λ b. b && entries_fit (filter test es) t) (and_first (value_fits e.0 t e.1) (entries_fit es t) h) ∙ ih
left_out_step test t e es false h ih = ih

pub entries_fit_filter : (test : Stat × Precision ScalarValue → Bool) (t : DType) (es : List (Stat × Precision ScalarValue)) → entries_fit es t ≡ true → entries_fit (filter test es) t ≡ true
entries_fit_filter test t [] h = refl
entries_fit_filter test t (e ∷ es) h = left_out_step test t e es (test e) h (entries_fit_filter test t es (and_second (value_fits e.0 t e.1) (entries_fit es t) h))

-- a list of entries that fits does so without the first, which fits too
pub rest_fits : (t : DType) (e : Stat × Precision ScalarValue) (es : List (Stat × Precision ScalarValue)) → entries_fit (e ∷ es) t ≡ true → entries_fit es t ≡ true
rest_fits t e es h = and_second (value_fits e.0 t e.1) (entries_fit es t) h

pub front_fits : (t : DType) (e : Stat × Precision ScalarValue) (es : List (Stat × Precision ScalarValue)) → entries_fit (e ∷ es) t ≡ true → value_fits e.0 t e.1 ≡ true
front_fits t e es h = and_first (value_fits e.0 t e.1) (entries_fit es t) h

pub ruleset fitting = (entries_fit_with_entry, entries_fit_filter)
