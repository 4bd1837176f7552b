-- The measured statistics of a column as a set: one after another, and what is looked up.
use Rattle.std.proofs.Common.{◌≡◌, ◌+◌, Bool, true, false, cond, not, ◌||◌, List, [], ◌∷◌, ◌++◌, Option, Some, None, refl, sym, ap, ◌∙◌}
use Rattle.std.specs.Prelude.{All, IsTrue}
use Rattle.std.specs.List.{cons_option, filter, filter_map, list_any}
use Rattle.std.specs.Option.{option_map}
use Rattle.std.proofs.lemmas.Bool.{false_from_ne_true}
use Rattle.std.proofs.lemmas.List.{append-nil}
use Rattle.std.proofs.lemmas.List.Elements.{All-cons, All-nil, filter-append, filter_map-append}
use mathlib.Core.Bool.{true≢false}
use Rattle.vortex_base.specs.declared.scalar_value.ScalarValue.{ScalarValue}
use Rattle.vortex_base.specs.Data.Columns.{ColumnData}
use Rattle.vortex_stats.specs.declared.stat.Stat.{Stat}
use Rattle.vortex_stats.specs.declared.precision.Precision.{Precision}
use Rattle.vortex_stats.specs.declared.precision.Precision.TheVariants.{Exact, Absent}
use Rattle.vortex_stats.specs.Measuring.Measured.{each_once, measured, measured_entry, measured_value}
use Rattle.vortex_stats.specs.Measuring.Told.{exactly, told, with_optional, with_told}
use Rattle.vortex_stats.specs.Precision.{is_absent, is_exact}
use Rattle.vortex_stats.specs.Sets.Entries.{has_entry, entry_value}
use Rattle.vortex_stats.specs.Stat.{stat_eq, stat_eq-itself, same_from_stat_eq}
use Rattle.vortex_stats.proofs.Sets.Places.{with_entry-none}

-- whether the statistic is among some
abbrev pub is_among : Stat → List Stat → Bool
is_among s ss = list_any (λ t. stat_eq s t) ss

abbrev others : Stat → List Stat → List Stat
others t ss = filter (λ u. not (stat_eq u t)) ss

stat_eq-back : (s t : Stat) → stat_eq s t ≡ true → stat_eq t s ≡ true
stat_eq-back s t h = ap (λ u. stat_eq u s) (sym (same_from_stat_eq s t h)) ∙ stat_eq-itself s

stat_ne-back : (s t : Stat) → stat_eq s t ≡ false → stat_eq t s ≡ false
stat_ne-back s t h = false_from_ne_true (stat_eq t s) (λ e. true≢false (sym (stat_eq-back t s e) ∙ h))

or_false : (b c : Bool) → (b || c) ≡ false → (b ≡ false) × (c ≡ false)
or_false true c h = absurd (true≢false h)
or_false false c h = (refl, h)

-- ---- each once

-- what is kept beside another statistic is among the kept ones as it was
among_step : (s t u : Stat) (us : List Stat) → stat_eq s t ≡ false → is_among s (others t us) ≡ is_among s us → (b : Bool) → stat_eq u t ≡ b
    → is_among s (cond (not b) (u ∷ others t us) (others t us)) ≡ (stat_eq s u || is_among s us)
among_step s t u us n ih true e = ih ∙ ap (λ b. b || is_among s us) (sym (ap (stat_eq s) (same_from_stat_eq u t e) ∙ n))
among_step s t u us n ih false e = ap (λ b. stat_eq s u || b) ih

among_others : (s t : Stat) (us : List Stat) → stat_eq s t ≡ false → is_among s (others t us) ≡ is_among s us
among_others s t [] n = refl
among_others s t (u ∷ us) n = among_step s t u us n (among_others s t us n) (stat_eq u t) refl

once_step : (s t : Stat) (ts : List Stat) → is_among s (each_once ts) ≡ is_among s ts → (b : Bool) → stat_eq s t ≡ b → (b || is_among s (others t (each_once ts))) ≡ (b || is_among s ts)
once_step s t ts ih true e = refl
once_step s t ts ih false e = among_others s t (each_once ts) e ∙ ih

pub among_each_once : (s : Stat) (ss : List Stat) → is_among s (each_once ss) ≡ is_among s ss
among_each_once s [] = refl
among_each_once s (t ∷ ts) = once_step s t ts (among_each_once s ts) (stat_eq s t) refl

-- one more at the end is one more, unless it is there
abbrev unless : Bool → List Stat → List Stat
unless b ss = cond b [] ss

kept_last : (s t : Stat) (b : Bool) → stat_eq s t ≡ b → others t (s ∷ []) ≡ cond b [] (s ∷ [])
kept_last s t b e = ap (λ c. cond (not c) (s ∷ []) []) e ∙ turned b
  where
    turned : (c : Bool) → cond (not c) (s ∷ []) [] ≡ cond c [] (s ∷ [])
    turned true = refl
    turned false = refl

last_step : (s t : Stat) (ts : List Stat) (b c : Bool) → stat_eq s t ≡ b → others t (each_once ts ++ unless c (s ∷ [])) ≡ others t (each_once ts) ++ unless (b || c) (s ∷ [])
last_step s t ts true true e = filter-append (λ u. not (stat_eq u t)) (each_once ts) []
last_step s t ts false true e = filter-append (λ u. not (stat_eq u t)) (each_once ts) []
last_step s t ts true false e = filter-append (λ u. not (stat_eq u t)) (each_once ts) (s ∷ []) ∙ ap (λ us. others t (each_once ts) ++ us) (kept_last s t true e)
last_step s t ts false false e = filter-append (λ u. not (stat_eq u t)) (each_once ts) (s ∷ []) ∙ ap (λ us. others t (each_once ts) ++ us) (kept_last s t false e)

each_once-push : (ss : List Stat) (s : Stat) → each_once (ss ++ s ∷ []) ≡ each_once ss ++ unless (is_among s ss) (s ∷ [])
each_once-push [] s = refl
each_once-push (t ∷ ts) s = ap (λ us. t ∷ others t us) (each_once-push ts s) ∙ ap (λ us. t ∷ us) (last_step s t ts (stat_eq s t) (is_among s ts) refl)

-- ---- what is looked up among entries that were made of statistics

module _ (c : ColumnData) where
  abbrev entries_of : List Stat → List (Stat × Precision ScalarValue)
  entries_of ss = filter_map (measured_entry c) ss

  none_told : (s u : Stat) → stat_eq s u ≡ true → measured_value u c ≡ None → told c s ≡ Absent
  none_told s u e h = ap (told c) (same_from_stat_eq s u e) ∙ ap exactly h

  value_told : (s u : Stat) (v : ScalarValue) → stat_eq s u ≡ true → measured_value u c ≡ Some v → told c s ≡ Exact v
  value_told s u v e h = ap (told c) (same_from_stat_eq s u e) ∙ ap exactly h

  nothing_either : (s : Stat) (b : Bool) → told c s ≡ Absent → cond b (told c s) Absent ≡ Absent
  nothing_either s true h = h
  nothing_either s false h = refl

  lookup_step : (s u : Stat) (us : List Stat) → entry_value s (entries_of us) ≡ cond (is_among s us) (told c s) Absent → (b : Bool) → stat_eq s u ≡ b → (o : Option ScalarValue) → measured_value u c ≡ o
      → entry_value s (cons_option (option_map (λ v. (u, Exact v)) o) (entries_of us)) ≡ cond (b || is_among s us) (told c s) Absent
  lookup_step s u us ih true e None h = ih ∙ nothing_either s (is_among s us) (none_told s u e h) ∙ sym (none_told s u e h)
  lookup_step s u us ih false e None h = ih
  lookup_step s u us ih true e (Some v) h = ap (λ b. cond b (Exact v) (entry_value s (entries_of us))) (stat_eq-back s u e) ∙ sym (value_told s u v e h)
  lookup_step s u us ih false e (Some v) h = ap (λ b. cond b (Exact v) (entry_value s (entries_of us))) (stat_ne-back s u e) ∙ ih

  lookup : (s : Stat) (us : List Stat) → entry_value s (entries_of us) ≡ cond (is_among s us) (told c s) Absent
  lookup s [] = refl
  lookup s (u ∷ us) = lookup_step s u us (lookup s us) (stat_eq s u) refl (measured_value u c) refl

  -- a wanted statistic is told of, and no other
  pub entry_value-measured : (s : Stat) (wanted : List Stat) → entry_value s (measured wanted c) ≡ cond (is_among s wanted) (told c s) Absent
  entry_value-measured s wanted = lookup s (each_once wanted) ∙ ap (λ b. cond b (told c s) Absent) (among_each_once s wanted)

  absent_step : (s u : Stat) (us : List Stat) → has_entry s (entries_of us) ≡ false → stat_eq s u ≡ false → (o : Option ScalarValue) → has_entry s (cons_option (option_map (λ v. (u, Exact v)) o) (entries_of us)) ≡ false
  absent_step s u us ih n None = ih
  absent_step s u us ih n (Some v) = ap (λ b. b || has_entry s (entries_of us)) (stat_ne-back s u n) ∙ ih

  absent : (s : Stat) (us : List Stat) → is_among s us ≡ false → has_entry s (entries_of us) ≡ false
  absent s [] n = refl
  absent s (u ∷ us) n = let both = or_false (stat_eq s u) (is_among s us) n in absent_step s u us (absent s us both.1) both.0 (measured_value u c)

  told_again : (s : Stat) (es : List (Stat × Precision ScalarValue)) (o : Option ScalarValue) → es ≡ cond (is_absent (exactly o)) (with_optional s o es) es
  told_again s es None = refl
  told_again s es (Some v) = refl

  told_last : (s : Stat) (es : List (Stat × Precision ScalarValue)) → has_entry s es ≡ false → (o : Option ScalarValue) → es ++ cons_option (option_map (λ v. (s, Exact v)) o) [] ≡ with_optional s o es
  told_last s es n None = append-nil es
  told_last s es n (Some v) = sym (with_entry-none s (Exact v) es n)

  push_step : (s : Stat) (ss : List Stat) (b : Bool) → is_among s ss ≡ b → measured ss c ++ entries_of (unless b (s ∷ [])) ≡ with_told c s (measured ss c)
  push_step s ss true e =
      append-nil (measured ss c) ∙ told_again s (measured ss c) (measured_value s c)
      ∙ ap (λ p. cond (is_absent p) (with_optional s (measured_value s c) (measured ss c)) (measured ss c)) (sym (entry_value-measured s ss ∙ ap (λ b. cond b (told c s) Absent) e))
  push_step s ss false e =
      told_last s (measured ss c) (absent s (each_once ss) (among_each_once s ss ∙ e)) (measured_value s c)
      ∙ ap (λ p. cond (is_absent p) (with_optional s (measured_value s c) (measured ss c)) (measured ss c)) (sym (entry_value-measured s ss ∙ ap (λ b. cond b (told c s) Absent) e))

  -- one more wanted statistic is told of after the others
  pub measured-push : (ss : List Stat) (s : Stat) → measured (ss ++ s ∷ []) c ≡ with_told c s (measured ss c)
  measured-push ss s = ap entries_of (each_once-push ss s) ∙ filter_map-append (measured_entry c) (each_once ss) (unless (is_among s ss) (s ∷ [])) ∙ push_step s ss (is_among s ss) refl

  -- ---- each entry is exact

  exact_step : (u : Stat) (us : List Stat) → All (λ e. IsTrue (is_exact e.1)) (entries_of us) → (o : Option ScalarValue) → All (λ e. IsTrue (is_exact e.1)) (cons_option (option_map (λ v. (u, Exact v)) o) (entries_of us))
  exact_step u us ih None = ih
  exact_step u us ih (Some v) = All-cons (λ e. IsTrue (is_exact e.1)) (u, Exact v) (entries_of us) refl ih

  pub entries_are_exact : (us : List Stat) → All (λ e. IsTrue (is_exact e.1)) (filter_map (measured_entry c) us)
  entries_are_exact [] = All-nil (λ e. IsTrue (is_exact e.1))
  entries_are_exact (u ∷ us) = exact_step u us (entries_are_exact us) (measured_value u c)

  pub measured_is_exact : (wanted : List Stat) → All (λ e. IsTrue (is_exact e.1)) (measured wanted c)
  measured_is_exact wanted = entries_are_exact (each_once wanted)
