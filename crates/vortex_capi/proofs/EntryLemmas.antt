-- The entries of the statistics that count.
use Rattle.std.proofs.Common.{◌≡◌, ◌==◌, ◌<◌, ◌≤◌, ◌+◌, ◌*◌, ℕ, add-one, true, false, List, [], ◌∷◌, ◌++◌, Some, ap, arith, eq-eqb, eqb-true, inl, inr, length, refl, subst, sym, ◌∙◌}
use Rattle.std.proofs.lemmas.Option.{same_Some, slice_get-get_or, slice_get_past, slice_get_within}
use Rattle.std.specs.Prelude.{replicate, slice_get, slice_set}
use Rattle.vortex_base.specs.Data.Exact.{both_hold, both_true}
use Rattle.vortex_stats.proofs.Sets.SlotLemmas.{number_below}
use Rattle.vortex_stats.specs.Stat.{stat_eq, stat_number}
use Rattle.vortex_stats.specs.declared.stat.Stat.{Stat}
use Rattle.vortex_zone_map.proofs.TableLemmas.{set_elsewhere, set_there}
use Rattle.vortex_prune.proofs.ZoneMaps.ZoneScan.{all_pushed}
use Rattle.vortex_zone_map.specs.Tables.{slot}
use Rattle.vortex_zone_map.specs.ZoneMaps.{StatColumn}
use Rattle.vortex_capi.specs.MapCells.{AreCounting, AreLasts, IsCounting, is_of, last_of}
use Rattle.vortex_capi.specs.declared.table.Source.{Source}
use Rattle.vortex_capi.proofs.PlaceLemmas.{column_within, own_place, replicated, same_or_not, untrue}

abbrev pub source_slot : Source → ℕ
source_slot x = slot x.statistic.column x.stat

module _ (i : ℕ) (s : Stat) (x : Source) where
  -- a statistic has its own place
  slot_of : is_of i s x ≡ true → slot i s ≡ source_slot x
  slot_of is =
      let both = both_true (x.statistic.column == i) (stat_eq x.stat s) is in
      let column = eqb-true x.statistic.column i both.0 in
      let number = eqb-true (stat_number x.stat) (stat_number s) both.1 in
      omega (arith, column, number)

  of_slot : slot i s ≡ source_slot x → is_of i s x ≡ true
  of_slot same =
      let both = own_place i x.statistic.column (stat_number s) (stat_number x.stat) (number_below s) (number_below x.stat) same in
      both_hold _ _ (eq-eqb x.statistic.column i (sym both.0)) (eq-eqb (stat_number x.stat) (stat_number s) (sym both.1))

  -- the next statistic counts or doesn't
  module _ (xs : List Source) (n : ℕ) (there : slice_get xs n ≡ Some x) where
    last_is : is_of i s x ≡ true → last_of i s xs (n + 1) ≡ Some x
    last_is own = rw (add-one, there, own) refl

    last_stays : is_of i s x ≡ false → last_of i s xs (n + 1) ≡ last_of i s xs n
    last_stays other = rw (add-one, there, other) refl

-- one more statistic, of a column that has places
pub one_more_last : (xs : List Source) (n : ℕ) (x : Source) (lasts : List ℕ) → slice_get xs n ≡ Some x → source_slot x < length lasts → AreLasts xs n lasts → AreLasts xs (n + 1) (slice_set lasts (source_slot x) n)
one_more_last xs n x lasts there within are =
    let own = source_slot x in
    record {
      last = λ i s k at. elim (same_or_not (slot i s) own) [
        | inl same ↦
            let here : n ≡ k = same_Some n k (sym (set_there lasts own _ n (slice_get-get_or lasts own 0 within)) ∙ ap (slice_get (slice_set lasts own n)) (sym same) ∙ at) in
            ap (slice_get xs) (sym here) ∙ there ∙ sym (last_is i s x xs n there (of_slot i s x same))
        | inr other ↦
            are.last i s k (sym (set_elsewhere lasts own (slot i s) n (λ e. other (sym e))) ∙ at)
            ∙ sym (last_stays i s x xs n there (untrue (is_of i s x) (λ is. other (slot_of i s x is))))
      ];
    }

-- one of a column that has none
pub last_passed : (xs : List Source) (n columns : ℕ) (x : Source) (lasts : List ℕ) → slice_get xs n ≡ Some x → length lasts ≡ columns * 9 → columns ≤ x.statistic.column → AreLasts xs n lasts → AreLasts xs (n + 1) lasts
last_passed xs n columns x lasts there wide past are = record {
  last = λ i s k at.
      let not = untrue (is_of i s x) (λ is.
      let column = eqb-true x.statistic.column i (both_true (x.statistic.column == i) (stat_eq x.stat s) is).0 in
      let within = slice_get_within lasts (slot i s) k at in
      let less = column_within i columns (stat_number s) (omega (arith, within, wide)) in
      omega (arith, column, less, past)) in
      are.last i s k at ∙ sym (last_stays i s x xs n there not);
}

-- none yet
pub no_lasts : (xs : List Source) (m : ℕ) (lasts : List ℕ) → lasts ≡ replicate m (length xs) → AreLasts xs 0 lasts
no_lasts xs m lasts none = record {
  last = λ i s k at.
      let past : length xs ≡ k = replicated m (length xs) (slot i s) k (ap (λ l. slice_get l (slot i s)) (sym none) ∙ at) in
      slice_get_past xs k (omega (arith, past));
}

-- one more head
pub one_more_counts : (xs : List Source) (hs : List StatColumn) (entries new : List ℕ) (n : ℕ) (h : StatColumn) (k : ℕ) → new ≡ entries ++ k ∷ [] → length entries ≡ n → slice_get hs n ≡ Some h → IsCounting xs h k → AreCounting xs hs entries → AreCounting xs hs new
one_more_counts xs hs entries new n h k pushed long at counts before j g p there is =
    all_pushed (λ i q. (e : StatColumn) → slice_get hs i ≡ Some e → IsCounting xs e q) entries k n long
    (λ e here. subst (λ y. IsCounting xs y k) (same_Some h e (sym at ∙ here)) counts)
    (λ i q q_at e here. before i e q here q_at) j p (ap (λ l. slice_get l j) (sym pushed) ∙ is) g there
