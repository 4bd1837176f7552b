-- Heads that read the same statistic, linked one behind the other.
use Rattle.std.proofs.Common.{◌≡◌, ◌≢◌, ◌<◌, ◌≤◌, ◌==◌, ◌&&◌, ◌+◌, ◌*◌, ◌∙◌, ℕ, zero, suc, Bool, true, false, List, None, Some, ap, ap₂, arith, eq-eqb, eqb-true, inl, inr, length, refl, subst, sym, ◌⊎◌}
use Rattle.std.proofs.Math.Nat.{eq-or-lt_of_le}
use Rattle.std.proofs.lemmas.List.{length-set}
use Rattle.std.proofs.lemmas.Option.{same_Some, slice_get-get_or, slice_get_within}
use Rattle.std.specs.Prelude.{replicate, slice_get, slice_set}
use Rattle.vortex_base.specs.Data.Exact.{both_true}
use Rattle.vortex_zone_map.specs.StatValues.{read_stat}
use Rattle.vortex_zone_map.specs.ZoneMaps.{StatColumn}
use Rattle.vortex_stats.proofs.Sets.SlotLemmas.{number_below}
use Rattle.vortex_stats.specs.Stat.{stat_number}
use Rattle.vortex_stats.specs.declared.stat.Stat.{Stat}
use Rattle.vortex_zone_map.proofs.TableLemmas.{set_elsewhere, set_there}
use Rattle.vortex_zone_map.specs.Tables.{AreLinked, IsNextReader, is_read, reads, slot}
use Rattle.vortex_zone_map.specs.declared.links.Links.{Links}

eq_or_not : (j i : ℕ) → (j ≡ i) ⊎ (j ≢ i)
eq_or_not zero zero = inl refl
eq_or_not zero (suc i) = inr (λ e. omega (arith, e))
eq_or_not (suc j) zero = inr (λ e. omega (arith, e))
eq_or_not (suc j) (suc i) = elim (eq_or_not j i) [ inl e ↦ inl (ap suc e) | inr ne ↦ inr (λ e. ne (omega (arith, e))) ]

not_true : (b : Bool) → (b ≡ true → ⊥) → b ≡ false
not_true true n = absurd (n refl)
not_true false n = refl

-- ---- the places of statistics

-- each statistic of each column has a place of its own
own_slot : (i j : ℕ) (s t : Stat) → slot i s ≡ slot j t → (i ≡ j) × (stat_number s ≡ stat_number t)
own_slot i j s t e = let a = number_below s in let b = number_below t in (omega (arith, a, b, e), omega (arith, a, b, e))

-- a place within those of so many columns is one of theirs
pub slot_within : (i n : ℕ) (s : Stat) → slot i s < n * 9 → i < n
slot_within i n s less = omega (arith, less)

pub slot_there : (i n : ℕ) (s : Stat) → i < n → slot i s < n * 9
slot_there i n s less = let a = number_below s in omega (arith, less, a)

module _ (h : StatColumn) (t : Stat) (tells : read_stat h.aggregate ≡ Some t) where
  -- what a head reads has the place that the head's statistic has
  read_slot : (i : ℕ) (s : Stat) → reads h i s ≡ true → slot i s ≡ slot h.source t
  read_slot i s read =
      let both = both_true (h.source == i) (is_read s (read_stat h.aggregate)) read in
      let column = eqb-true h.source i both.0 in
      let number = eqb-true (stat_number s) (stat_number t) (ap (is_read s) (sym tells) ∙ both.1) in
      omega (arith, column, number)

  slot_read : (i : ℕ) (s : Stat) → slot i s ≡ slot h.source t → reads h i s ≡ true
  slot_read i s same =
      let both = own_slot i h.source s t same in
      ap₂ (λ a b. a && b) (eq-eqb h.source i (sym both.0)) (ap (is_read s) tells ∙ eq-eqb (stat_number s) (stat_number t) both.1)

and_false : (b : Bool) → (b && false) ≡ false
and_false true = refl
and_false false = refl

-- a head reads nothing that isn't told of
none_read : (h : StatColumn) (i : ℕ) (s : Stat) → read_stat h.aggregate ≡ None → reads h i s ≡ false
none_read h i s none = ap (λ o. (h.source == i) && is_read s o) none ∙ and_false (h.source == i)

-- ---- one more head

-- it doesn't read the statistic, so the next reader stays
passed : (heads : List StatColumn) (i : ℕ) (s : Stat) (p n : ℕ) → IsNextReader heads i s (p + 1) n → ((h : StatColumn) → slice_get heads p ≡ Some h → reads h i s ≡ false) → IsNextReader heads i s p n
passed heads i s p n is not =
    let behind = is.behind in
    record {
      behind = omega (arith, behind);
      within = is.within;
      unread = λ k h at le less. elim (eq-or-lt_of_le {n = p} {m = k} le) [
        | inl same ↦ not h (ap (slice_get heads) same ∙ at)
        | inr more ↦ is.unread k h at (omega (arith, more)) less
      ];
      read = is.read;
    }

-- it reads it, so it is the next
read_here : (heads : List StatColumn) (i : ℕ) (s : Stat) (p : ℕ) (h : StatColumn) → slice_get heads p ≡ Some h → reads h i s ≡ true → IsNextReader heads i s p p
read_here heads i s p h at read =
    let within = slice_get_within heads p h at in
    record {
      behind = omega arith;
      within = omega (arith, within);
      unread = λ k g there le less. absurd (omega (arith, le, less));
      read = λ g there. ap (λ (x : StatColumn). reads x i s) (same_Some g h (sym there ∙ at)) ∙ read;
    }

-- a head that reads nothing that has a place
pub left_out : (heads : List StatColumn) (p : ℕ) (h : StatColumn) (l : Links) → slice_get heads p ≡ Some h → ((i : ℕ) (s : Stat) → slot i s < length l.firsts.items → reads h i s ≡ false) → AreLinked heads (p + 1) l → AreLinked heads p l
left_out heads p h l at unread is = record {
  long = is.long;
  first = λ i s n got.
      passed heads i s p n (is.first i s n got) (λ g there. ap (λ (x : StatColumn). reads x i s) (same_Some g h (sym there ∙ at)) ∙ unread i s (slice_get_within l.firsts.items (slot i s) n got));
  next = λ k g i s n le there read few got. elim (eq-or-lt_of_le {n = p} {m = k} le) [
    | inl same ↦
        let own : g ≡ h = same_Some g h (sym there ∙ ap (slice_get heads) (sym same) ∙ at) in
        let not : reads g i s ≡ false = ap (λ (x : StatColumn). reads x i s) own ∙ unread i s few in
        absurd cc
    | inr more ↦ is.next k g i s n (omega (arith, more)) there read few got
  ];
}

-- a head that tells of no statistic
pub none_left_out : (heads : List StatColumn) (p : ℕ) (h : StatColumn) (l : Links) → slice_get heads p ≡ Some h → read_stat h.aggregate ≡ None → AreLinked heads (p + 1) l → AreLinked heads p l
none_left_out heads p h l at none = left_out heads p h l at (λ i s less. none_read h i s none)

-- a head of a column that has no place
pub column_left_out : (heads : List StatColumn) (p columns : ℕ) (h : StatColumn) (l : Links) → slice_get heads p ≡ Some h → columns ≤ h.source → length l.firsts.items ≡ columns * 9 → AreLinked heads (p + 1) l → AreLinked heads p l
column_left_out heads p columns h l at past wide =
    left_out heads p h l at (λ i s less.
    not_true (reads h i s) (λ read.
    let both = both_true (h.source == i) (is_read s (read_stat h.aggregate)) read in
    let column = eqb-true h.source i both.0 in
    let within = slot_within i columns s (omega (arith, less, wide)) in
    omega (arith, column, within, past)))

-- a head that is linked before the first one of its statistic
pub linked_before : (heads : List StatColumn) (p : ℕ) (h : StatColumn) (t : Stat) (first : ℕ) (old new : Links) → slice_get heads p ≡ Some h → read_stat h.aggregate ≡ Some t → slice_get old.firsts.items (slot h.source t) ≡ Some first
    → new.nexts.items ≡ slice_set old.nexts.items p first → new.firsts.items ≡ slice_set old.firsts.items (slot h.source t) p → AreLinked heads (p + 1) old → AreLinked heads p new
linked_before heads p h t first old new at tells was nexts firsts is =
    let own = slot h.source t in
    let at_own : (g : StatColumn) → slice_get heads p ≡ Some g → g ≡ h = λ g there. same_Some g h (sym there ∙ at) in
    let wide : length new.firsts.items ≡ length old.firsts.items = ap length firsts ∙ length-set old.firsts.items own p in
    record {
      long = ap length nexts ∙ length-set old.nexts.items p first ∙ is.long;
      first = λ i s n got. elim (eq_or_not (slot i s) own) [
        | inl same ↦
            let here : p ≡ n = same_Some p n (sym (set_there old.firsts.items own first p was) ∙ ap (slice_get (slice_set old.firsts.items own p)) (sym same) ∙ ap (λ l. slice_get l (slot i s)) (sym firsts) ∙ got) in
            subst (IsNextReader heads i s p) here (read_here heads i s p h at (slot_read h t tells i s same))
        | inr other ↦
            passed heads i s p n (is.first i s n (sym (set_elsewhere old.firsts.items own (slot i s) p (λ e. other (sym e))) ∙ ap (λ l. slice_get l (slot i s)) (sym firsts) ∙ got))
            (λ g there. ap (λ (x : StatColumn). reads x i s) (at_own g there) ∙ not_true (reads h i s) (λ read. other (read_slot h t tells i s read)))
      ];
      next = λ k g i s n le there read few got. elim (eq-or-lt_of_le {n = p} {m = k} le) [
        | inl same ↦
            let head : g ≡ h = at_own g (ap (slice_get heads) same ∙ there) in
            let place : slot i s ≡ own = read_slot h t tells i s (ap (λ (x : StatColumn). reads x i s) (sym head) ∙ read) in
            let within : p < length old.nexts.items = (let long = is.long in let inside = slice_get_within heads p h at in omega (arith, long, inside)) in
            let set : slice_get (slice_set old.nexts.items p first) p ≡ Some first = set_there old.nexts.items p _ first (slice_get-get_or old.nexts.items p 0 within) in
            let behind : first ≡ n = same_Some first n (sym set ∙ ap (slice_get (slice_set old.nexts.items p first)) same ∙ ap (λ l. slice_get l k) (sym nexts) ∙ got) in
            subst (λ m. IsNextReader heads i s (m + 1) n) same (subst (IsNextReader heads i s (p + 1)) behind (is.first i s first (ap (slice_get old.firsts.items) place ∙ was)))
        | inr more ↦
            is.next k g i s n (omega (arith, more)) there read (omega (arith, few, wide))
            (sym (set_elsewhere old.nexts.items p k first (λ e. omega (arith, e, more))) ∙ ap (λ l. slice_get l k) (sym nexts) ∙ got)
      ];
    }

-- ---- none yet

replicated : (m x k y : ℕ) → slice_get (replicate m x) k ≡ Some y → x ≡ y
replicated zero x k y at = absurd cc
replicated (suc m) x zero y at = same_Some x y at
replicated (suc m) x (suc k) y at = replicated m x k y at

pub none_linked : (heads : List StatColumn) (m : ℕ) (l : Links) → l.firsts.items ≡ replicate m (length heads) → length l.nexts.items ≡ length heads → AreLinked heads (length heads) l
none_linked heads m l firsts long =
    let end = length heads in
    record {
      long = long;
      first = λ i s n got.
          let last : end ≡ n = replicated m end (slot i s) n (ap (λ xs. slice_get xs (slot i s)) (sym firsts) ∙ got) in
          record {
            behind = omega (arith, last);
            within = omega (arith, last);
            unread = λ k h at le less. absurd (omega (arith, last, le, less));
            read = λ h at. absurd (let within = slice_get_within heads n h at in omega (arith, last, within));
          };
      next = λ k h i s n le at read few got. absurd (let within = slice_get_within heads k h at in omega (arith, le, within));
    }
