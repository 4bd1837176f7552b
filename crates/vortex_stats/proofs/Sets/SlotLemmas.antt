-- Entries in slots: what is read of a slot, and what a write of one leaves.
use Rattle.std.proofs.Common.{◌≡◌, ℕ, ◌+◌, ◌<◌, ◌≤◌, ◌≢◌, Bool, true, false, cond, not, ◌||◌, List, [], ◌∷◌, ◌++◌, length, get_or, set, Option, Some, None, refl, sym, ap, subst, ◌∙◌, arith, get_or-set_other, get_or-set_same}
use Rattle.std.proofs.lemmas.List.{length-set, get_or_read}
use Rattle.std.proofs.lemmas.Cmp.{nat_eq_equiv}
use Rattle.std.specs.Option.{is_some}
use Rattle.std.specs.List.{filter}
use mathlib.Core.Bool.{true≢false}
use borrow.Author.Tests.{eqb-false}
use Rattle.vortex_stats.specs.declared.stat.Stat.{Stat}
use Rattle.vortex_stats.specs.declared.stat.Stat.TheVariants.{IsConstant, IsSorted, IsStrictSorted, Max, Min, Sum, NullCount, UncompressedSizeInBytes, NaNCount}
use Rattle.vortex_stats.specs.declared.precision.Precision.{Precision}
use Rattle.vortex_stats.specs.declared.precision.Precision.TheVariants.{Absent}
use Rattle.vortex_stats.specs.Stat.{stat_number, stat_eq, same_from_stat_eq}
use Rattle.vortex_stats.specs.Sets.Entries.{is_entry_of, has_entry, entry_value, with_entry, without_entry, AreDistinct}
use Rattle.vortex_stats.specs.Sets.Slots.{slot_of, value_in, slot_entries, IsHeld, IsSound, IsFiled, AreFiled, AreLeft}
use Rattle.vortex_stats.proofs.Logic.{or_right, or_right_false}
use Rattle.vortex_stats.proofs.Sets.Places.{eq_back, entry_value-none, with_entry-none, other_entry, distinct_with_entry, distinct_filter}
use Rattle.vortex_stats.proofs.Sets.Lookups.{has_entry-with_own, has_entry-without_own, has_entry-without_other}

pub number_below : (s : Stat) → stat_number s < 9
number_below IsConstant = omega arith
number_below IsSorted = omega arith
number_below IsStrictSorted = omega arith
number_below Max = omega arith
number_below Min = omega arith
number_below Sum = omega arith
number_below NullCount = omega arith
number_below UncompressedSizeInBytes = omega arith
number_below NaNCount = omega arith

-- ---- no more than nine distinct statistics

bit : Bool → ℕ
bit true = 1
bit false = 0

bit_at_most : (b : Bool) → bit b ≤ 1
unfolding bit
bit_at_most true = omega arith
bit_at_most false = omega arith

no_bit : (b : Bool) → b ≡ false → bit b ≡ 0
unfolding bit
no_bit true h = absurd (true≢false h)
no_bit false h = refl

module _ {V : Type 0} where
  -- how many of the nine statistics have an entry
  abbrev listed : List (Stat × Precision V) → ℕ
  listed es =
      bit (has_entry IsConstant es) + bit (has_entry IsSorted es) + bit (has_entry IsStrictSorted es) + bit (has_entry Max es) + bit (has_entry Min es)
      + bit (has_entry Sum es) + bit (has_entry NullCount es) + bit (has_entry UncompressedSizeInBytes es) + bit (has_entry NaNCount es)

  listed-first : (s : Stat) (p : Precision V) (es : List (Stat × Precision V)) → has_entry s es ≡ false → listed ((s, p) ∷ es) ≡ listed es + 1
  unfolding bit
  listed-first IsConstant p es h = omega (arith, no_bit (has_entry IsConstant es) h)
  listed-first IsSorted p es h = omega (arith, no_bit (has_entry IsSorted es) h)
  listed-first IsStrictSorted p es h = omega (arith, no_bit (has_entry IsStrictSorted es) h)
  listed-first Max p es h = omega (arith, no_bit (has_entry Max es) h)
  listed-first Min p es h = omega (arith, no_bit (has_entry Min es) h)
  listed-first Sum p es h = omega (arith, no_bit (has_entry Sum es) h)
  listed-first NullCount p es h = omega (arith, no_bit (has_entry NullCount es) h)
  listed-first UncompressedSizeInBytes p es h = omega (arith, no_bit (has_entry UncompressedSizeInBytes es) h)
  listed-first NaNCount p es h = omega (arith, no_bit (has_entry NaNCount es) h)

  length-listed : (es : List (Stat × Precision V)) → AreDistinct es → length es ≡ listed es
  unfolding bit
  length-listed [] d = refl
  length-listed (e ∷ es) d = omega (arith, length-listed es d.1, listed-first e.0 e.1 es d.0)

  pub length-distinct : (es : List (Stat × Precision V)) → AreDistinct es → length es ≤ 9
  length-distinct es d =
      omega (
        arith,
        length-listed es d,
        bit_at_most (has_entry IsConstant es),
        bit_at_most (has_entry IsSorted es),
        bit_at_most (has_entry IsStrictSorted es),
        bit_at_most (has_entry Max es),
        bit_at_most (has_entry Min es),
        bit_at_most (has_entry Sum es),
        bit_at_most (has_entry NullCount es),
        bit_at_most (has_entry UncompressedSizeInBytes es),
        bit_at_most (has_entry NaNCount es),
      )

  pub length_slots : (slots : List (Option (Stat × Precision V))) (order : List Stat) → length (slot_entries slots order) ≡ length order
  length_slots slots [] = refl
  length_slots slots (t ∷ ts) = omega (arith, length_slots slots ts)

  -- ---- what is read of a slot

  -- what was read at the number of s
  pub slot_read : (slots : List (Option (Stat × Precision V))) → length slots ≡ 9 → (s : Stat) (k : ℕ) (x : Option (Stat × Precision V))
      → k ≡ stat_number s → x ≡ get_or slots k x → x ≡ slot_of slots s
  slot_read slots nine s k x e r = get_or_read slots (stat_number s) x (omega (arith, nine, number_below s)) (r ∙ ap (λ j. get_or slots j x) e) None

  value_step : (slots : List (Option (Stat × Precision V))) (s t : Stat) (ts : List Stat)
      → (has_entry s (slot_entries slots ts) ≡ true → entry_value s (slot_entries slots ts) ≡ value_in (slot_of slots s))
      → (b : Bool) → stat_eq t s ≡ b → (b || has_entry s (slot_entries slots ts)) ≡ true → cond b (value_in (slot_of slots t)) (entry_value s (slot_entries slots ts)) ≡ value_in (slot_of slots s)
  value_step slots s t ts ih true e h = ap (λ u. value_in (slot_of slots u)) (same_from_stat_eq t s e)
  value_step slots s t ts ih false e h = ih h

  value_listed : (slots : List (Option (Stat × Precision V))) (s : Stat) (order : List Stat) → has_entry s (slot_entries slots order) ≡ true → entry_value s (slot_entries slots order) ≡ value_in (slot_of slots s)
  value_listed slots s [] h = absurd (true≢false (sym h))
  value_listed slots s (t ∷ ts) h = value_step slots s t ts (value_listed slots s ts) (stat_eq t s) refl h

  module _ (slots : List (Option (Stat × Precision V))) (order : List Stat) (capacity : ℕ) (h : IsSound slots order capacity) (s : Stat) where
    held_at : (x : Option (Stat × Precision V)) → x ≡ slot_of slots s → IsHeld x s (has_entry s (slot_entries slots order))
    held_at x e = subst (λ y. IsHeld y s (has_entry s (slot_entries slots order))) (sym e) (h.held s)

    told : (x : Option (Stat × Precision V)) (b : Bool) → IsHeld x s b → b ≡ is_some x
    told None b k = k
    told (Some e) b k = k.1

    -- a statistic is listed where its slot is filled
    pub has_entry-slots : (x : Option (Stat × Precision V)) → x ≡ slot_of slots s → has_entry s (slot_entries slots order) ≡ is_some x
    has_entry-slots x e = told x (has_entry s (slot_entries slots order)) (held_at x e)

    value_case : (x : Option (Stat × Precision V)) → x ≡ slot_of slots s → entry_value s (slot_entries slots order) ≡ value_in x
    value_case None e = entry_value-none s (slot_entries slots order) (has_entry-slots None e)
    value_case (Some d) e = value_listed slots s order (has_entry-slots (Some d) e) ∙ ap value_in (sym e)

    -- the value of a statistic stands in its slot
    pub entry_value-slots : (x : Option (Stat × Precision V)) → x ≡ slot_of slots s → entry_value s (slot_entries slots order) ≡ value_in x
    entry_value-slots x e = value_case x e

    -- there is room for another where a slot is empty
    pub room : has_entry s (slot_entries slots order) ≡ false → length order + 1 ≤ capacity
    room n = omega (arith, h.inline, length_slots slots order, length-distinct ((s, Absent) ∷ slot_entries slots order) (n, h.distinct))

  -- ---- a write at the slot of s

  module _ (slots : List (Option (Stat × Precision V))) (nine : length slots ≡ 9) (s : Stat) (x : Option (Stat × Precision V)) where
    set_slot : slot_of (set slots (stat_number s) x) s ≡ x
    set_slot = let l : stat_number s < length slots = omega (arith, nine, number_below s) in get_or-set_same slots (stat_number s) x None l

    other_slot : (t : Stat) → stat_eq t s ≡ false → slot_of (set slots (stat_number s) x) t ≡ slot_of slots t
    other_slot t n = get_or-set_other slots (stat_number s) (stat_number t) x None (eqb-false (stat_number t) (stat_number s) n)

    unchanged_step : (t : Stat) (ts : List Stat) → (has_entry s (slot_entries slots ts) ≡ false → slot_entries (set slots (stat_number s) x) ts ≡ slot_entries slots ts)
        → (b : Bool) → stat_eq t s ≡ b → (b || has_entry s (slot_entries slots ts)) ≡ false
        → slot_entries (set slots (stat_number s) x) (t ∷ ts) ≡ slot_entries slots (t ∷ ts)
    unchanged_step t ts ih true e h = absurd (true≢false h)
    unchanged_step t ts ih false e h =
        ap (λ v. (t, value_in v) ∷ slot_entries (set slots (stat_number s) x) ts) (other_slot t e) ∙ ap (λ r. (t, value_in (slot_of slots t)) ∷ r) (ih h)

    -- where s isn't listed the entries stay
    pub unchanged : (order : List Stat) → has_entry s (slot_entries slots order) ≡ false → slot_entries (set slots (stat_number s) x) order ≡ slot_entries slots order
    unchanged [] h = refl
    unchanged (t ∷ ts) h = unchanged_step t ts (unchanged ts) (stat_eq t s) refl h

    module _ (order : List Stat) (capacity : ℕ) (h : IsSound slots order capacity) (order' : List Stat) (es : List (Stat × Precision V))
        (written : slot_entries (set slots (stat_number s) x) order' ≡ es) (here : IsHeld x s (has_entry s es))
        (others : (t : Stat) → stat_eq t s ≡ false → has_entry t es ≡ has_entry t (slot_entries slots order)) (d : AreDistinct es) where
      held_step : (t : Stat) (b : Bool) → stat_eq t s ≡ b → IsHeld (slot_of (set slots (stat_number s) x) t) t (has_entry t es)
      held_step t true e =
          subst (λ u. IsHeld (slot_of (set slots (stat_number s) x) u) u (has_entry u es)) (sym (same_from_stat_eq t s e))
          (subst (λ y. IsHeld y s (has_entry s es)) (sym set_slot) here)
      held_step t false e =
          subst (λ b. IsHeld (slot_of (set slots (stat_number s) x) t) t b) (sym (others t e))
          (subst (λ y. IsHeld y t (has_entry t (slot_entries slots order))) (sym (other_slot t e)) (h.held t))

      -- the slots are sound after a write that agrees with a change of the list
      pub sound_written : IsSound (set slots (stat_number s) x) order' capacity
      sound_written = record {
        nine = length-set slots (stat_number s) x ∙ nine;
        inline = h.inline;
        held = λ t. subst (λ l. IsHeld (slot_of (set slots (stat_number s) x) t) t (has_entry t l)) (sym written) (held_step t (stat_eq t s) refl);
        distinct = subst AreDistinct (sym written) d;
      }

  -- ---- a value is written

  module _ (slots : List (Option (Stat × Precision V))) (nine : length slots ≡ 9) (s : Stat) (p : Precision V) where
    set_step : (t : Stat) (ts : List Stat) → has_entry t (slot_entries slots ts) ≡ false
        → (has_entry s (slot_entries slots ts) ≡ true → slot_entries (set slots (stat_number s) (Some (s, p))) ts ≡ with_entry s p (slot_entries slots ts))
        → (b : Bool) → stat_eq t s ≡ b → (b || has_entry s (slot_entries slots ts)) ≡ true
        → slot_entries (set slots (stat_number s) (Some (s, p))) (t ∷ ts) ≡ cond b ((s, p) ∷ slot_entries slots ts) ((t, value_in (slot_of slots t)) ∷ with_entry s p (slot_entries slots ts))
    set_step t ts d ih true e h =
        ap (λ u. (u, value_in (slot_of (set slots (stat_number s) (Some (s, p))) u)) ∷ slot_entries (set slots (stat_number s) (Some (s, p))) ts) (same_from_stat_eq t s e)
        ∙ ap (λ v. (s, value_in v) ∷ slot_entries (set slots (stat_number s) (Some (s, p))) ts) (set_slot slots nine s (Some (s, p)))
        ∙ ap (λ r. (s, p) ∷ r) (unchanged slots nine s (Some (s, p)) ts (ap (λ u. has_entry u (slot_entries slots ts)) (sym (same_from_stat_eq t s e)) ∙ d))
    set_step t ts d ih false e h =
        ap (λ v. (t, value_in v) ∷ slot_entries (set slots (stat_number s) (Some (s, p))) ts) (other_slot slots nine s (Some (s, p)) t e)
        ∙ ap (λ r. (t, value_in (slot_of slots t)) ∷ r) (ih h)

    -- a present statistic keeps its place
    pub written_in_place : (order : List Stat) → AreDistinct (slot_entries slots order) → has_entry s (slot_entries slots order) ≡ true
        → slot_entries (set slots (stat_number s) (Some (s, p))) order ≡ with_entry s p (slot_entries slots order)
    written_in_place [] d h = absurd (true≢false (sym h))
    written_in_place (t ∷ ts) d h = set_step t ts d.0 (written_in_place ts d.1) (stat_eq t s) refl h

    pushed : (order : List Stat) → slot_entries (set slots (stat_number s) (Some (s, p))) (order ++ s ∷ []) ≡ slot_entries (set slots (stat_number s) (Some (s, p))) order ++ (s, p) ∷ []
    pushed [] = ap (λ v. (s, value_in v) ∷ []) (set_slot slots nine s (Some (s, p)))
    pushed (t ∷ ts) = ap (λ r. (t, value_in (slot_of (set slots (stat_number s) (Some (s, p))) t)) ∷ r) (pushed ts)

    -- a new one goes last
    pub written_last : (order : List Stat) → has_entry s (slot_entries slots order) ≡ false
        → slot_entries (set slots (stat_number s) (Some (s, p))) (order ++ s ∷ []) ≡ with_entry s p (slot_entries slots order)
    written_last order h =
        pushed order ∙ ap (λ r. r ++ (s, p) ∷ []) (unchanged slots nine s (Some (s, p)) order h) ∙ sym (with_entry-none s p (slot_entries slots order) h)

    -- the slots are sound after a value was written, in place or last
    pub sound_with : (order : List Stat) (capacity : ℕ) → IsSound slots order capacity → (order' : List Stat)
        → slot_entries (set slots (stat_number s) (Some (s, p))) order' ≡ with_entry s p (slot_entries slots order) → IsSound (set slots (stat_number s) (Some (s, p))) order' capacity
    sound_with order capacity h order' w =
        let es = slot_entries slots order in
        sound_written slots nine s (Some (s, p)) order capacity h order' (with_entry s p es) w (refl, has_entry-with_own s p es)
        (λ t n. other_entry s t p es (eq_back t s n)) (distinct_with_entry s p es h.distinct)

  -- ---- a value is removed

  module _ (slots : List (Option (Stat × Precision V))) (nine : length slots ≡ 9) (s : Stat) where
    removed_step : (t : Stat) (ts : List Stat)
        → slot_entries (set slots (stat_number s) None) (filter (λ u. not (stat_eq u s)) ts) ≡ without_entry s (slot_entries slots ts)
        → (b : Bool) → stat_eq t s ≡ b
        → slot_entries (set slots (stat_number s) None) (cond (not b) (t ∷ filter (λ u. not (stat_eq u s)) ts) (filter (λ u. not (stat_eq u s)) ts))
        ≡ cond (not b) ((t, value_in (slot_of slots t)) ∷ without_entry s (slot_entries slots ts)) (without_entry s (slot_entries slots ts))
    removed_step t ts ih true e = ih
    removed_step t ts ih false e =
        ap (λ v. (t, value_in v) ∷ slot_entries (set slots (stat_number s) None) (filter (λ u. not (stat_eq u s)) ts)) (other_slot slots nine s None t e)
        ∙ ap (λ r. (t, value_in (slot_of slots t)) ∷ r) ih

    pub removed : (order : List Stat) → slot_entries (set slots (stat_number s) None) (filter (λ u. not (stat_eq u s)) order) ≡ without_entry s (slot_entries slots order)
    removed [] = refl
    removed (t ∷ ts) = removed_step t ts (removed ts) (stat_eq t s) refl

    pub sound_without : (order : List Stat) (capacity : ℕ) → IsSound slots order capacity → IsSound (set slots (stat_number s) None) (filter (λ u. not (stat_eq u s)) order) capacity
    sound_without order capacity h =
        let es = slot_entries slots order in
        sound_written slots nine s None order capacity h (filter (λ u. not (stat_eq u s)) order) (without_entry s es) (removed order) (has_entry-without_own s es)
        (λ t n. has_entry-without_other s t es n) (distinct_filter _ es h.distinct)

  left_step : (a b : Bool) (e : Stat × Precision V) (es fs : List (Stat × Precision V)) → (b ≡ false → fs ≡ es) → (a || b) ≡ false → cond (not a) (e ∷ fs) fs ≡ e ∷ es
  left_step true b e es fs f h = absurd (true≢false h)
  left_step false b e es fs f h = ap (λ r. e ∷ r) (f h)

  -- nothing is left out where there is no entry
  pub without_entry-none : (s : Stat) (es : List (Stat × Precision V)) → has_entry s es ≡ false → without_entry s es ≡ es
  without_entry-none s [] h = refl
  without_entry-none s (e ∷ es) h = left_step (is_entry_of s e) (has_entry s es) e es (without_entry s es) (without_entry-none s es) h

  -- ---- iterators

  filed_held : (x : Option (Stat × Precision V)) (s : Stat) (b : Bool) → IsHeld x s b → b ≡ true → IsFiled x s
  filed_held None s b h e = true≢false (sym e ∙ h)
  filed_held (Some d) s b h e = h.0

  module _ (slots : List (Option (Stat × Precision V))) (order : List Stat) (capacity : ℕ) (h : IsSound slots order capacity) where
    filed_among : (ss : List Stat) → ((s : Stat) → has_entry s (slot_entries slots ss) ≡ true → has_entry s (slot_entries slots order) ≡ true) → AreFiled slots ss
    filed_among [] g = tt
    filed_among (s ∷ ss) g = (
      filed_held (slot_of slots s) s (has_entry s (slot_entries slots order)) (h.held s) (g s (ap (λ b. b || has_entry s (slot_entries slots ss)) (nat_eq_equiv.refl (stat_number s)))),
      filed_among ss (λ t i. g t (or_right (stat_eq s t) (has_entry t (slot_entries slots ss)) i)),
    )

    -- all entries are left at the start
    pub all_left : AreLeft slots order
    all_left = record { nine = h.nine; filed = filed_among order (λ s i. i); distinct = h.distinct }

module _ {V : Type 0} (slots : List (Option (Stat × Precision V))) (s : Stat) (rest : List Stat) (h : AreLeft slots (s ∷ rest)) where
  filed_after_step : (t : Stat) (ts : List Stat) → IsFiled (slot_of slots t) t → AreFiled (set slots (stat_number s) None) ts → (b : Bool) → stat_eq t s ≡ b
      → (b || has_entry s (slot_entries slots ts)) ≡ false → AreFiled (set slots (stat_number s) None) (t ∷ ts)
  filed_after_step t ts o ih true e n = absurd (true≢false n)
  filed_after_step t ts o ih false e n = (subst (λ x. IsFiled x t) (sym (other_slot slots h.nine s None t e)) o, ih)

  filed_after : (ts : List Stat) → AreFiled slots ts → has_entry s (slot_entries slots ts) ≡ false → AreFiled (set slots (stat_number s) None) ts
  filed_after [] o n = tt
  filed_after (t ∷ ts) o n = filed_after_step t ts o.0 (filed_after ts o.1 (or_right_false (stat_eq t s) (has_entry s (slot_entries slots ts)) n)) (stat_eq t s) refl n

  -- the others are left once the first was taken
  pub left_after : AreLeft (set slots (stat_number s) None) rest
  left_after = record {
    nine = length-set slots (stat_number s) None ∙ h.nine;
    filed = filed_after rest h.filed.1 h.distinct.0;
    distinct = subst AreDistinct (sym (unchanged slots h.nine s None rest h.distinct.0)) h.distinct.1;
  }

  taken_first : (e : Stat × Precision V) → e.0 ≡ s → (s, e.1) ≡ e
  taken_first e o = ap (λ t. (t, e.1)) (sym o)

  -- what was taken stood first
  pub left_first : (e : Stat × Precision V) → slot_of slots s ≡ Some e → slot_entries slots (s ∷ rest) ≡ e ∷ slot_entries (set slots (stat_number s) None) rest
  left_first e f =
      ap (λ x. (s, value_in x) ∷ slot_entries slots rest) f ∙ ap (λ x. x ∷ slot_entries slots rest) (taken_first e (subst (λ x. IsFiled x s) f h.filed.0))
      ∙ ap (λ r. e ∷ r) (sym (unchanged slots h.nine s None rest h.distinct.0))
