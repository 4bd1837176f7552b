-- The value of a statistic, and whether it has an entry, after a write of one.
use Rattle.std.proofs.Common.{◌≡◌, Bool, true, false, cond, not, ◌||◌, List, [], ◌∷◌, Option, Some, None, refl, sym, ap, subst, ◌∙◌}
use Rattle.std.specs.Option.{is_some}
use Rattle.std.specs.List.{filter}
use Rattle.std.proofs.lemmas.Cmp.{nat_eq_equiv}
use mathlib.Core.Bool.{true≢false}
use Rattle.vortex_base.specs.declared.scalar_value.ScalarValue.{ScalarValue}
use Rattle.vortex_stats.specs.declared.stat.Stat.{Stat}
use Rattle.vortex_stats.specs.declared.stat.Stat.TheVariants.{IsConstant, IsSorted, IsStrictSorted, Max, Min, Sum, NullCount, UncompressedSizeInBytes, NaNCount}
use Rattle.vortex_stats.specs.declared.precision.Precision.{Precision}
use Rattle.vortex_stats.specs.declared.precision.Precision.TheVariants.{Absent}
use Rattle.vortex_stats.specs.Stat.{stat_number, stat_eq, same_from_stat_eq, stat_eq-itself}
use Rattle.vortex_stats.specs.Sets.Entries.{is_entry_of, has_entry, entry_value, with_entry, without_entry}
use Rattle.vortex_stats.specs.Merging.Merges.{revised, all_revised}
use Rattle.vortex_stats.proofs.Sets.Places.{other_entry}

module _ {V : Type 0} where
  own_with_step : (s : Stat) (p : Precision V) (e : Stat × Precision V) (es : List (Stat × Precision V)) → entry_value s (with_entry s p es) ≡ p
      → (b : Bool) → is_entry_of s e ≡ b → entry_value s (cond b ((s, p) ∷ es) (e ∷ with_entry s p es)) ≡ p
  own_with_step s p e es ih true h = ap (λ b. cond b p (entry_value s es)) (stat_eq-itself s)
  own_with_step s p e es ih false h = ap (λ b. cond b e.1 (entry_value s (with_entry s p es))) h ∙ ih

  -- the value that was written
  pub entry_value-with_own : (s : Stat) (p : Precision V) (es : List (Stat × Precision V)) → entry_value s (with_entry s p es) ≡ p
  entry_value-with_own s p [] = ap (λ b. cond b p Absent) (stat_eq-itself s)
  entry_value-with_own s p (e ∷ es) = own_with_step s p e es (entry_value-with_own s p es) (is_entry_of s e) refl

  other_with_step : (s t : Stat) (p : Precision V) (e : Stat × Precision V) (es : List (Stat × Precision V)) → stat_eq s t ≡ false → entry_value t (with_entry s p es) ≡ entry_value t es
      → (b : Bool) → is_entry_of s e ≡ b → entry_value t (cond b ((s, p) ∷ es) (e ∷ with_entry s p es)) ≡ cond (is_entry_of t e) e.1 (entry_value t es)
  other_with_step s t p e es n ih true h =
      ap (λ b. cond b p (entry_value t es)) n ∙ sym (ap (λ u. cond (stat_eq u t) e.1 (entry_value t es)) (same_from_stat_eq e.0 s h) ∙ ap (λ b. cond b e.1 (entry_value t es)) n)
  other_with_step s t p e es n ih false h = ap (λ r. cond (is_entry_of t e) e.1 r) ih

  -- another statistic keeps its value
  pub entry_value-with_other : (s t : Stat) (p : Precision V) (es : List (Stat × Precision V)) → stat_eq s t ≡ false → entry_value t (with_entry s p es) ≡ entry_value t es
  entry_value-with_other s t p [] n = ap (λ b. cond b p Absent) n
  entry_value-with_other s t p (e ∷ es) n = other_with_step s t p e es n (entry_value-with_other s t p es n) (is_entry_of s e) refl

  -- ---- entries kept by a test of their statistic

  module _ (keeps : Stat → Bool) where
    abbrev kept : List (Stat × Precision V) → List (Stat × Precision V)
    kept es = filter (λ e. keeps e.0) es

    dropped_step : (t : Stat) (e : Stat × Precision V) (v : Precision V) (c : Bool) → keeps t ≡ false → keeps e.0 ≡ true → is_entry_of t e ≡ c → v ≡ Absent → cond c e.1 v ≡ Absent
    dropped_step t e v true n k h ih = absurd (true≢false (sym k ∙ ap keeps (same_from_stat_eq e.0 t h) ∙ n))
    dropped_step t e v false n k h ih = ih

    dropped_either : (t : Stat) (e : Stat × Precision V) (es : List (Stat × Precision V)) → keeps t ≡ false → entry_value t (kept es) ≡ Absent → (b : Bool) → keeps e.0 ≡ b
        → entry_value t (cond b (e ∷ kept es) (kept es)) ≡ Absent
    dropped_either t e es n ih true k = dropped_step t e (entry_value t (kept es)) (is_entry_of t e) n k refl ih
    dropped_either t e es n ih false k = ih

    -- a statistic that is dropped
    pub entry_value-dropped : (t : Stat) (es : List (Stat × Precision V)) → keeps t ≡ false → entry_value t (filter (λ e. keeps e.0) es) ≡ Absent
    entry_value-dropped t [] n = refl
    entry_value-dropped t (e ∷ es) n = dropped_either t e es n (entry_value-dropped t es n) (keeps e.0) refl

    kept_step : (t : Stat) (e : Stat × Precision V) (v w : Precision V) (c : Bool) → keeps t ≡ true → keeps e.0 ≡ false → is_entry_of t e ≡ c → v ≡ w → v ≡ cond c e.1 w
    kept_step t e v w true n k h ih = absurd (true≢false (sym n ∙ sym (ap keeps (same_from_stat_eq e.0 t h)) ∙ k))
    kept_step t e v w false n k h ih = ih

    kept_either : (t : Stat) (e : Stat × Precision V) (es : List (Stat × Precision V)) → keeps t ≡ true → entry_value t (kept es) ≡ entry_value t es → (b : Bool) → keeps e.0 ≡ b
        → entry_value t (cond b (e ∷ kept es) (kept es)) ≡ cond (is_entry_of t e) e.1 (entry_value t es)
    kept_either t e es n ih true k = ap (λ r. cond (is_entry_of t e) e.1 r) ih
    kept_either t e es n ih false k = kept_step t e (entry_value t (kept es)) (entry_value t es) (is_entry_of t e) n k refl ih

    -- a statistic that is kept
    pub entry_value-kept : (t : Stat) (es : List (Stat × Precision V)) → keeps t ≡ true → entry_value t (filter (λ e. keeps e.0) es) ≡ entry_value t es
    entry_value-kept t [] n = refl
    entry_value-kept t (e ∷ es) n = kept_either t e es n (entry_value-kept t es n) (keeps e.0) refl

    none_step : (t : Stat) (e : Stat × Precision V) (c : Bool) → keeps t ≡ false → keeps e.0 ≡ true → is_entry_of t e ≡ c → (d : Bool) → d ≡ false → (c || d) ≡ false
    none_step t e true n k h d ih = absurd (true≢false (sym k ∙ ap keeps (same_from_stat_eq e.0 t h) ∙ n))
    none_step t e false n k h d ih = ih

    none_either : (t : Stat) (e : Stat × Precision V) (es : List (Stat × Precision V)) → keeps t ≡ false → has_entry t (kept es) ≡ false → (b : Bool) → keeps e.0 ≡ b
        → has_entry t (cond b (e ∷ kept es) (kept es)) ≡ false
    none_either t e es n ih true k = none_step t e (is_entry_of t e) n k refl (has_entry t (kept es)) ih
    none_either t e es n ih false k = ih

    pub has_entry-dropped : (t : Stat) (es : List (Stat × Precision V)) → keeps t ≡ false → has_entry t (filter (λ e. keeps e.0) es) ≡ false
    has_entry-dropped t [] n = refl
    has_entry-dropped t (e ∷ es) n = none_either t e es n (has_entry-dropped t es n) (keeps e.0) refl

    some_step : (t : Stat) (e : Stat × Precision V) (c : Bool) → keeps t ≡ true → keeps e.0 ≡ false → is_entry_of t e ≡ c → (d f : Bool) → d ≡ f → d ≡ (c || f)
    some_step t e true n k h d f ih = absurd (true≢false (sym n ∙ sym (ap keeps (same_from_stat_eq e.0 t h)) ∙ k))
    some_step t e false n k h d f ih = ih

    some_either : (t : Stat) (e : Stat × Precision V) (es : List (Stat × Precision V)) → keeps t ≡ true → has_entry t (kept es) ≡ has_entry t es → (b : Bool) → keeps e.0 ≡ b
        → has_entry t (cond b (e ∷ kept es) (kept es)) ≡ (is_entry_of t e || has_entry t es)
    some_either t e es n ih true k = ap (λ r. is_entry_of t e || r) ih
    some_either t e es n ih false k = some_step t e (is_entry_of t e) n k refl (has_entry t (kept es)) (has_entry t es) ih

    pub has_entry-kept : (t : Stat) (es : List (Stat × Precision V)) → keeps t ≡ true → has_entry t (filter (λ e. keeps e.0) es) ≡ has_entry t es
    has_entry-kept t [] n = refl
    has_entry-kept t (e ∷ es) n = some_either t e es n (has_entry-kept t es n) (keeps e.0) refl

  -- ---- one statistic's entries left out

  pub entry_value-without_own : (s : Stat) (es : List (Stat × Precision V)) → entry_value s (without_entry s es) ≡ Absent
  entry_value-without_own s es = entry_value-dropped (λ t. not (stat_eq t s)) s es (ap not (stat_eq-itself s))

  pub has_entry-without_own : (s : Stat) (es : List (Stat × Precision V)) → has_entry s (without_entry s es) ≡ false
  has_entry-without_own s es = has_entry-dropped (λ t. not (stat_eq t s)) s es (ap not (stat_eq-itself s))

  pub entry_value-without_other : (s t : Stat) (es : List (Stat × Precision V)) → stat_eq t s ≡ false → entry_value t (without_entry s es) ≡ entry_value t es
  entry_value-without_other s t es n = entry_value-kept (λ u. not (stat_eq u s)) t es (ap not n)

  pub has_entry-without_other : (s t : Stat) (es : List (Stat × Precision V)) → stat_eq t s ≡ false → has_entry t (without_entry s es) ≡ has_entry t es
  has_entry-without_other s t es n = has_entry-kept (λ u. not (stat_eq u s)) t es (ap not n)

  has_with_step : (s : Stat) (p : Precision V) (e : Stat × Precision V) (es : List (Stat × Precision V)) → has_entry s (with_entry s p es) ≡ true
      → (b : Bool) → is_entry_of s e ≡ b → has_entry s (cond b ((s, p) ∷ es) (e ∷ with_entry s p es)) ≡ true
  has_with_step s p e es ih true h = ap (λ b. b || has_entry s es) (stat_eq-itself s)
  has_with_step s p e es ih false h = ap (λ b. b || has_entry s (with_entry s p es)) h ∙ ih

  pub has_entry-with_own : (s : Stat) (p : Precision V) (es : List (Stat × Precision V)) → has_entry s (with_entry s p es) ≡ true
  has_entry-with_own s p [] = ap (λ b. b || false) (stat_eq-itself s)
  has_entry-with_own s p (e ∷ es) = has_with_step s p e es (has_entry-with_own s p es) (is_entry_of s e) refl

-- ---- after a revision

abbrev pub or_absent : Option (Precision ScalarValue) → Precision ScalarValue
or_absent None = Absent
or_absent (Some p) = p

pub entry_value-revised_own : (s : Stat) (v : Option (Precision ScalarValue)) (es : List (Stat × Precision ScalarValue)) → entry_value s (revised s v es) ≡ or_absent v
entry_value-revised_own s None es = entry_value-without_own s es
entry_value-revised_own s (Some p) es = entry_value-with_own s p es

pub has_entry-revised_own : (s : Stat) (v : Option (Precision ScalarValue)) (es : List (Stat × Precision ScalarValue)) → has_entry s (revised s v es) ≡ is_some v
has_entry-revised_own s None es = has_entry-without_own s es
has_entry-revised_own s (Some p) es = has_entry-with_own s p es

-- s and t are not the same, either way round
abbrev pub AreOther : Stat → Stat → Type 0
AreOther s t = (stat_eq s t ≡ false) × (stat_eq t s ≡ false)

pub entry_value-revised_other : (s t : Stat) (v : Option (Precision ScalarValue)) (es : List (Stat × Precision ScalarValue)) → AreOther s t → entry_value t (revised s v es) ≡ entry_value t es
entry_value-revised_other s t None es n = entry_value-without_other s t es n.1
entry_value-revised_other s t (Some p) es n = entry_value-with_other s t p es n.0

pub has_entry-revised_other : (s t : Stat) (v : Option (Precision ScalarValue)) (es : List (Stat × Precision ScalarValue)) → AreOther s t → has_entry t (revised s v es) ≡ has_entry t es
has_entry-revised_other s t None es n = has_entry-without_other s t es n.1
has_entry-revised_other s t (Some p) es n = other_entry s t p es n.0

-- ---- after the revision of all

-- what is read of the entries of t, which the revision of another statistic leaves as it was
module _ (v : Stat → Option (Precision ScalarValue)) {X : Type 0} (read : List (Stat × Precision ScalarValue) → X) (t : Stat) (own : X)
    (told : (es : List (Stat × Precision ScalarValue)) → read (revised t (v t) es) ≡ own)
    (other : (s : Stat) (es : List (Stat × Precision ScalarValue)) → AreOther s t → read (revised s (v s) es) ≡ read es) where
  revised_by : (s : Stat) (es : List (Stat × Precision ScalarValue)) (b : Bool) → stat_eq s t ≡ b → stat_eq t s ≡ b → read (revised s (v s) es) ≡ cond b own (read es)
  revised_by s es true h k = subst (λ u. read (revised u (v u) es) ≡ own) (sym (same_from_stat_eq s t h)) (told es)
  revised_by s es false h k = other s es (h, k)

  after : (s : Stat) (es : List (Stat × Precision ScalarValue)) (x : X) → read es ≡ x → read (revised s (v s) es) ≡ cond (stat_eq s t) own x
  after s es x h = revised_by s es (stat_eq s t) refl (nat_eq_equiv.symm (stat_number t) (stat_number s)) ∙ ap (λ y. cond (stat_eq s t) own y) h

  -- own, where t is one of the nine
  among : X → Stat → X
  among x u =
      cond (stat_eq NaNCount u) own (cond (stat_eq UncompressedSizeInBytes u) own (cond (stat_eq NullCount u) own (cond (stat_eq Sum u) own (cond (stat_eq Min u) own
      (cond (stat_eq Max u) own (cond (stat_eq IsStrictSorted u) own (cond (stat_eq IsSorted u) own (cond (stat_eq IsConstant u) own x))))))))

  among-own : (x : X) (u : Stat) → among x u ≡ own
  unfolding among
  among-own x IsConstant = refl
  among-own x IsSorted = refl
  among-own x IsStrictSorted = refl
  among-own x Max = refl
  among-own x Min = refl
  among-own x Sum = refl
  among-own x NullCount = refl
  among-own x UncompressedSizeInBytes = refl
  among-own x NaNCount = refl

  after_all : (es : List (Stat × Precision ScalarValue)) → read (all_revised v es) ≡ among (read es) t
  unfolding among
  after_all es =
      after NaNCount _ _ (after UncompressedSizeInBytes _ _ (after NullCount _ _ (after Sum _ _ (after Min _ _
      (after Max _ _ (after IsStrictSorted _ _ (after IsSorted _ _ (after IsConstant es _ refl))))))))

  pub read-all_revised : (es : List (Stat × Precision ScalarValue)) → read (all_revised v es) ≡ own
  read-all_revised es = after_all es ∙ among-own (read es) t

module _ (v : Stat → Option (Precision ScalarValue)) (t : Stat) (es : List (Stat × Precision ScalarValue)) where
  pub entry_value-all_revised : entry_value t (all_revised v es) ≡ or_absent (v t)
  entry_value-all_revised =
      read-all_revised v (entry_value t) t (or_absent (v t)) (λ r. entry_value-revised_own t (v t) r) (λ s r n. entry_value-revised_other s t (v s) r n) es

  pub has_entry-all_revised : has_entry t (all_revised v es) ≡ is_some (v t)
  has_entry-all_revised =
      read-all_revised v (has_entry t) t (is_some (v t)) (λ r. has_entry-revised_own t (v t) r) (λ s r n. has_entry-revised_other s t (v s) r n) es
