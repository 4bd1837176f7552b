-- Entries by the place that `position` gives.
use Rattle.std.proofs.Common.{◌≡◌, ℕ, zero, suc, ◌+◌, ◌<◌, Bool, true, false, cond, ◌||◌, List, [], ◌∷◌, ◌++◌, length, get_or, set, append_assoc, Option, Some, None, refl, sym, ap, subst, ◌∙◌, arith}
use Rattle.std.proofs.lemmas.Grind.{common_steps}
use Rattle.std.proofs.lemmas.List.{append-nil}
use Rattle.std.specs.Prelude.{⊤}
use Rattle.std.specs.List.{position, position_from, filter, refill}
use Rattle.std.specs.List.Retain.{RetainsInTurn}
use Rattle.std.proofs.lemmas.List.Quantifiers.{position-Some}
use Rattle.std.proofs.lemmas.Iterator.Adapters.{position_from-zero}
use mathlib.Core.Bool.{true≢false}
use Rattle.std.proofs.lemmas.Bool.Decides.{nat_tests}
use Rattle.vortex_stats.specs.declared.stat.Stat.{Stat}
use Rattle.vortex_stats.specs.declared.precision.Precision.{Precision}
use Rattle.vortex_stats.specs.declared.precision.Precision.TheVariants.{Absent}
use Rattle.vortex_stats.specs.Stat.{stat_eq, same_from_stat_eq}
use Rattle.vortex_stats.specs.Sets.Entries.{is_entry_of, has_entry, entry_value, with_entry, with_entries, AreDistinct}
use Rattle.vortex_stats.proofs.Logic.{or_right, or_left_false, or_right_false}

none_step : (i : ℕ) (b c : Bool) (o : Option ℕ) → (o ≡ None → c ≡ false) → cond b (Some i) o ≡ None → (b || c) ≡ false
none_step i true c o ih h = cc
none_step i false c o ih h = ih h

pub eq_back : (a b : Stat) → stat_eq a b ≡ false → stat_eq b a ≡ false
eq_back a b h = grind (arith, nat_tests)

filter_step : (a b c : Bool) → (c ≡ false → b ≡ false) → (a || c) ≡ false → (a || b) ≡ false
filter_step true b c f h = h
filter_step false b c f h = f h

filter_step_out : (a b c : Bool) → (c ≡ false → b ≡ false) → (a || c) ≡ false → b ≡ false
filter_step_out true b c f h = absurd (true≢false h)
filter_step_out false b c f h = f h

new_step : (a b c d : Bool) → (b ≡ false → d ≡ false → c ≡ false) → (a || b) ≡ false → d ≡ false → (a || c) ≡ false
new_step true b c d f h k = absurd (true≢false h)
new_step false b c d f h k = f h k

module _ {V : Type 0} where
  none_from : (s : Stat) (es : List (Stat × Precision V)) (i : ℕ) → position_from (is_entry_of s) i es ≡ None → has_entry s es ≡ false
  none_from s [] i h = refl
  none_from s (e ∷ es) i h = none_step i (is_entry_of s e) (has_entry s es) (position_from (is_entry_of s) (i + 1) es) (none_from s es (i + 1)) h

  -- no place: no entry
  pub no_entry-from_place : (s : Stat) (es : List (Stat × Precision V)) → position (is_entry_of s) es ≡ None → has_entry s es ≡ false
  no_entry-from_place s es h = none_from s es 0 (sym (position_from-zero (is_entry_of s) es) ∙ h)

  with_none_step : (b c : Bool) (x y : List (Stat × Precision V)) (z : List (Stat × Precision V)) → (c ≡ false → y ≡ z) → (b || c) ≡ false → cond b x y ≡ z
  with_none_step true c x y z ih h = absurd (true≢false h)
  with_none_step false c x y z ih h = ih h

  pub with_entry-none : (s : Stat) (p : Precision V) (es : List (Stat × Precision V)) → has_entry s es ≡ false → with_entry s p es ≡ es ++ (s, p) ∷ []
  with_entry-none s p [] h = refl
  with_entry-none s p (e ∷ es) h =
      with_none_step (is_entry_of s e) (has_entry s es) ((s, p) ∷ es) (e ∷ with_entry s p es) (e ∷ (es ++ (s, p) ∷ [])) (λ k. ap (λ r. e ∷ r) (with_entry-none s p es k)) h

  value_none_step : (b c : Bool) (x y : Precision V) → (c ≡ false → y ≡ Absent) → (b || c) ≡ false → cond b x y ≡ Absent
  value_none_step true c x y ih h = absurd (true≢false h)
  value_none_step false c x y ih h = ih h

  pub entry_value-none : (s : Stat) (es : List (Stat × Precision V)) → has_entry s es ≡ false → entry_value s es ≡ Absent
  entry_value-none s [] h = refl
  entry_value-none s (e ∷ es) h = value_none_step (is_entry_of s e) (has_entry s es) e.1 (entry_value s es) (entry_value-none s es) h

  -- what holds at the first place where s stands
  pub with_entry-at : (s : Stat) (p : Precision V) (es : List (Stat × Precision V)) (i : ℕ) (d : Stat × Precision V)
      → i < length es → is_entry_of s (get_or es i d) ≡ true → ((k : ℕ) → k < i → is_entry_of s (get_or es k d) ≡ false)
      → with_entry s p es ≡ set es i (s, p)
  with_entry-at s p [] i d l t n = absurd (omega arith)
  with_entry-at s p (e ∷ es) zero d l t n = ap (λ b. cond b ((s, p) ∷ es) (e ∷ with_entry s p es)) t
  with_entry-at s p (e ∷ es) (suc i) d l t n =
      ap (λ b. cond b ((s, p) ∷ es) (e ∷ with_entry s p es)) (n 0 (omega arith))
      ∙ ap (λ r. e ∷ r) (with_entry-at s p es i d (omega arith) t (λ k h. n (suc k) (omega arith)))

  pub entry_value-at : (s : Stat) (es : List (Stat × Precision V)) (i : ℕ) (d : Stat × Precision V)
      → i < length es → is_entry_of s (get_or es i d) ≡ true → ((k : ℕ) → k < i → is_entry_of s (get_or es k d) ≡ false)
      → entry_value s es ≡ (get_or es i d).1
  entry_value-at s [] i d l t n = absurd (omega arith)
  entry_value-at s (e ∷ es) zero d l t n = ap (λ b. cond b e.1 (entry_value s es)) t
  entry_value-at s (e ∷ es) (suc i) d l t n =
      ap (λ b. cond b e.1 (entry_value s es)) (n 0 (omega arith))
      ∙ entry_value-at s es i d (omega arith) t (λ k h. n (suc k) (omega arith))

  pub has_entry-at : (s : Stat) (es : List (Stat × Precision V)) (i : ℕ) (d : Stat × Precision V)
      → i < length es → is_entry_of s (get_or es i d) ≡ true → has_entry s es ≡ true
  has_entry-at s [] i d l t = absurd (omega arith)
  has_entry-at s (e ∷ es) zero d l t = ap (λ b. b || has_entry s es) t
  has_entry-at s (e ∷ es) (suc i) d l t = or_right (is_entry_of s e) (has_entry s es) (has_entry-at s es i d (omega arith) t)

  pub with_entry-from_place : (s : Stat) (p : Precision V) (es : List (Stat × Precision V)) (i : ℕ) → position (is_entry_of s) es ≡ Some i → with_entry s p es ≡ set es i (s, p)
  with_entry-from_place s p es i h =
      let f = position-Some (is_entry_of s) es i (s, p) h in with_entry-at s p es i (s, p) f.0 f.1 f.2

  pub entry_value-from_place : (s : Stat) (es : List (Stat × Precision V)) (i : ℕ) (d : Stat × Precision V) → position (is_entry_of s) es ≡ Some i → entry_value s es ≡ (get_or es i d).1
  entry_value-from_place s es i d h =
      let f = position-Some (is_entry_of s) es i d h in entry_value-at s es i d f.0 f.1 f.2

  pub set_refilled : (es : List (Stat × Precision V)) (i : ℕ) (x : Stat × Precision V) → refill (length es) es (set es i x) ≡ set es i x
  set_refilled es i x = grind (arith, common_steps)

  -- ---- distinct statistics

  other_entry_step : (s t : Stat) (p : Precision V) (e : Stat × Precision V) (es : List (Stat × Precision V)) → stat_eq s t ≡ false
      → has_entry t (with_entry s p es) ≡ has_entry t es → (b : Bool) → is_entry_of s e ≡ b
      → has_entry t (cond b ((s, p) ∷ es) (e ∷ with_entry s p es)) ≡ (is_entry_of t e || has_entry t es)
  other_entry_step s t p e es n ih true h = ap (λ u. stat_eq u t || has_entry t es) (sym (same_from_stat_eq e.0 s h))
  other_entry_step s t p e es n ih false h = ap (λ b. is_entry_of t e || b) ih

  -- another statistic stays as it was
  pub other_entry : (s t : Stat) (p : Precision V) (es : List (Stat × Precision V)) → stat_eq s t ≡ false → has_entry t (with_entry s p es) ≡ has_entry t es
  other_entry s t p [] n = ap (λ b. b || false) n
  other_entry s t p (e ∷ es) n = other_entry_step s t p e es n (other_entry s t p es n) (is_entry_of s e) refl

  distinct_step : (s : Stat) (p : Precision V) (e : Stat × Precision V) (es : List (Stat × Precision V)) → has_entry e.0 es ≡ false → AreDistinct es
      → AreDistinct (with_entry s p es) → (b : Bool) → is_entry_of s e ≡ b → AreDistinct (cond b ((s, p) ∷ es) (e ∷ with_entry s p es))
  distinct_step s p e es h d ih true b = (ap (λ u. has_entry u es) (sym (same_from_stat_eq e.0 s b)) ∙ h, d)
  distinct_step s p e es h d ih false b = (other_entry s e.0 p es (eq_back e.0 s b) ∙ h, ih)

  pub distinct_with_entry : (s : Stat) (p : Precision V) (es : List (Stat × Precision V)) → AreDistinct es → AreDistinct (with_entry s p es)
  distinct_with_entry s p [] d = (refl, tt)
  distinct_with_entry s p (e ∷ es) d = distinct_step s p e es d.0 d.1 (distinct_with_entry s p es d.1) (is_entry_of s e) refl

  no_entry_step : (t : Stat) (test : Stat × Precision V → Bool) (e : Stat × Precision V) (es : List (Stat × Precision V)) → (has_entry t es ≡ false → has_entry t (filter test es) ≡ false)
      → (b : Bool) → (is_entry_of t e || has_entry t es) ≡ false → has_entry t (cond b (e ∷ filter test es) (filter test es)) ≡ false
  no_entry_step t test e es f true h = filter_step (is_entry_of t e) (has_entry t (filter test es)) (has_entry t es) f h
  no_entry_step t test e es f false h = filter_step_out (is_entry_of t e) (has_entry t (filter test es)) (has_entry t es) f h

  pub no_entry-filter : (t : Stat) (test : Stat × Precision V → Bool) (es : List (Stat × Precision V)) → has_entry t es ≡ false → has_entry t (filter test es) ≡ false
  no_entry-filter t test [] h = refl
  no_entry-filter t test (e ∷ es) h = no_entry_step t test e es (no_entry-filter t test es) (test e) h

  distinct_filter_step : (test : Stat × Precision V → Bool) (e : Stat × Precision V) (es : List (Stat × Precision V)) → has_entry e.0 es ≡ false → AreDistinct (filter test es)
      → (b : Bool) → AreDistinct (cond b (e ∷ filter test es) (filter test es))
  distinct_filter_step test e es h d true = (no_entry-filter e.0 test es h, d)
  distinct_filter_step test e es h d false = d

  pub distinct_filter : (test : Stat × Precision V → Bool) (es : List (Stat × Precision V)) → AreDistinct es → AreDistinct (filter test es)
  distinct_filter test [] d = tt
  distinct_filter test (e ∷ es) d = distinct_filter_step test e es d.0 (distinct_filter test es d.1) (test e)

-- a closure that only tests, and changes nothing, leaves a filter
pub filtered-from_retain : {S X : Type 0} (R : S → X → Bool → S → X → Type 0) (test : X → Bool) (s : S)
    → ((x : X) (b : Bool) (t : S) (y : X) → R s x b t y → (b ≡ test x) × (t ≡ s) × (y ≡ x))
    → (xs ys : List X) → RetainsInTurn R s xs ys → ys ≡ filter test xs
filtered-from_retain {S} {X} R test s h [] ys r = r
filtered-from_retain {S} {X} R test s h (x ∷ xs) ys r =
    let w = h x r.0 r.1 r.2 r.3 in
    let again = subst (λ t. RetainsInTurn R t xs r.4) w.1 r.5 in
    let rest = filtered-from_retain R test s h xs r.4 again in
    r.6 ∙ ap (λ b. cond b (r.2 ∷ r.4) r.4) w.0 ∙ ap (λ y. cond (test x) (y ∷ r.4) r.4) w.2 ∙ ap (λ zs. cond (test x) (x ∷ zs) zs) rest

pub ruleset distinct = (distinct_with_entry, distinct_filter)

module _ {V : Type 0} where
  pub has_entry-from_place : (s : Stat) (p : Precision V) (es : List (Stat × Precision V)) (i : ℕ) → position (is_entry_of s) es ≡ Some i → has_entry s es ≡ true
  has_entry-from_place s p es i h =
      let f = position-Some (is_entry_of s) es i (s, p) h in has_entry-at s es i (s, p) f.0 f.1

module _ {V : Type 0} where
  -- one more item is set last
  pub with_entries-snoc : (items : List (Stat × Precision V)) (x : Stat × Precision V) (es : List (Stat × Precision V)) → with_entries (items ++ x ∷ []) es ≡ with_entry x.0 x.1 (with_entries items es)
  with_entries-snoc [] x es = refl
  with_entries-snoc (y ∷ items) x es = with_entries-snoc items x (with_entry y.0 y.1 es)

  no_entry-append : (s : Stat) (xs ys : List (Stat × Precision V)) → has_entry s xs ≡ false → has_entry s ys ≡ false → has_entry s (xs ++ ys) ≡ false
  no_entry-append s [] ys h k = k
  no_entry-append s (x ∷ xs) ys h k = new_step (is_entry_of s x) (has_entry s xs) (has_entry s (xs ++ ys)) (has_entry s ys) (no_entry-append s xs ys) h k

  -- no entry of the one list is one of a statistic of the other
  abbrev Misses : List (Stat × Precision V) → List (Stat × Precision V) → Type 0
  Misses xs [] = ⊤
  Misses xs (y ∷ ys) = (has_entry y.0 xs ≡ false) × Misses xs ys

  misses_nothing : (ys : List (Stat × Precision V)) → Misses [] ys
  misses_nothing [] = tt
  misses_nothing (y ∷ ys) = (refl, misses_nothing ys)

  misses_last : (xs ys : List (Stat × Precision V)) (x : Stat × Precision V) → Misses xs ys → has_entry x.0 ys ≡ false → Misses (xs ++ x ∷ []) ys
  misses_last xs [] x m h = tt
  misses_last xs (y ∷ ys) x m h = (
    no_entry-append y.0 xs (x ∷ []) m.0 (ap (λ b. b || false) (eq_back y.0 x.0 (or_left_false (stat_eq y.0 x.0) (has_entry x.0 ys) h))),
    misses_last xs ys x m.1 (or_right_false (stat_eq y.0 x.0) (has_entry x.0 ys) h),
  )

  with_entries-after : (ys xs : List (Stat × Precision V)) → AreDistinct ys → Misses xs ys → with_entries ys xs ≡ xs ++ ys
  with_entries-after [] xs d m = sym (append-nil xs)
  with_entries-after (y ∷ ys) xs d m =
      ap (with_entries ys) (with_entry-none y.0 y.1 xs m.0) ∙ with_entries-after ys (xs ++ y ∷ []) d.1 (misses_last xs ys y m.1 d.0) ∙ append_assoc xs (y ∷ []) ys

  -- distinct entries that are set one by one make a list of them
  pub with_entries-distinct : (es : List (Stat × Precision V)) → AreDistinct es → with_entries es [] ≡ es
  with_entries-distinct es d = with_entries-after es [] d (misses_nothing es)
