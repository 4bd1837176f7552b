-- What each call makes of a log as it is kept.
use Rattle.std.proofs.Common.{◌≡◌, ◌≤◌, ◌+◌, ◌++◌, ◌∙◌, ℕ, List, [], ◌∷◌, Err, Ok, Result, Some, ap, ap₂, drop, length, subst, sym, take}
use Rattle.std.proofs.lemmas.List.{length-append, length-map, map-append}
use Rattle.std.specs.List.{AllByRecursion}
use Rattle.std.specs.Prelude.{OnErr, slice_get}
use Rattle.vortex_base.specs.declared.scalar_value.ScalarValue.{ScalarValue}
use Rattle.vortex_zone_map.specs.Zone.{Entries, ZoneData, merged_sets}
use Rattle.vortex_rewrite.proofs.Logic.{all_append}
use Rattle.vortex_stats.specs.declared.precision.Precision.{Precision}
use Rattle.vortex_stats.specs.declared.stat.Stat.{Stat}
use Rattle.vortex_zone_map.proofs.JoinLemmas.{joined_within, joined_zones}
use Rattle.vortex_zone_map.proofs.KeptLemmas.{kept_longer, said_longer}
use Rattle.vortex_zone_map.proofs.LogLemmas.{IsNext, next_is_within, none_told, nothing_told, one_more_told, others_within, zones_ended}
use Rattle.vortex_zone_map.specs.Kept.{AreKept, IsFormed, IsLog, IsLonger, IsWithin, Saying, log_of, said, saying, sets_of, zones_of}
use Rattle.vortex_zone_map.specs.Logs.{LogData, ended, joined_at, with_told}
use Rattle.vortex_zone_map.specs.declared.entry_range.EntryRange.{EntryRange}
use Rattle.vortex_zone_map.specs.declared.stat_entry.StatEntry.{StatEntry}

abbrev made : List ZoneData → List Entries → LogData
made zones current = record { zones = zones; current = current }

-- what a refusal leaves
pub on_err : {T E P : Type 0} (r : Result T E) → P → OnErr r P
on_err (Ok x) p = tt
on_err (Err e) p = p

-- ---- texts are added

module _ (n : ℕ) (var_len_values new : List ScalarValue) (longer : IsLonger var_len_values new) (told current : List StatEntry) (runs : List EntryRange) (is : IsLog var_len_values told current runs) where
  told_same : said new told ≡ said var_len_values told
  told_same = said_longer var_len_values new longer told is.told_kept

  pub same_log : log_of n new told current runs ≡ log_of n var_len_values told current runs
  same_log = ap₂ (λ (t c : List Saying). made (zones_of n t runs) (sets_of n c)) told_same (said_longer var_len_values new longer current is.current_kept)

  -- something is told of the zone that hasn't ended
  pub told_is_log : (now : List StatEntry) → AreKept (length new) now → IsLog new told now runs
  told_is_log now kept = record {
    stretches = subst (λ (t : List Saying). AllByRecursion (IsWithin (length t)) runs) (sym told_same) is.stretches;
    told_kept = kept_longer var_len_values new longer told is.told_kept;
    current_kept = kept;
  }

  pub stays_log : IsLog new told current runs
  stays_log = told_is_log current (kept_longer var_len_values new longer current is.current_kept)

  -- memory is refused to what else was to be done
  pub refused_is_log : (all : List StatEntry) (ss : List EntryRange) → all ≡ told → ss ≡ runs → IsLog new all current ss
  refused_is_log all ss same as_before = subst (λ t. IsLog new t current ss) (sym same) (subst (IsLog new told current) (sym as_before) stays_log)

  pub refused_log : (all : List StatEntry) (ss : List EntryRange) → all ≡ told → ss ≡ runs → log_of n new all current ss ≡ log_of n var_len_values told current runs
  refused_log all ss same as_before = ap₂ (λ t r. log_of n new t current r) same as_before ∙ same_log

  pub told_log : (now : List StatEntry) (s : Saying) → said new now ≡ said var_len_values current ++ s ∷ [] → log_of n new told now runs ≡ with_told s.column s.stat s.value (log_of n var_len_values told current runs)
  told_log now s says = ap₂ (λ (t c : List Saying). made (zones_of n t runs) (sets_of n c)) told_same says ∙ ap (made (zones_of n (said var_len_values told) runs)) (one_more_told n (said var_len_values current) s)

-- there is no such column
pub nothing_log : (n : ℕ) (var_len_values : List ScalarValue) (told current : List StatEntry) (runs : List EntryRange) (i : ℕ) (s : Stat) (p : Precision ScalarValue) → n ≤ i → log_of n var_len_values told current runs ≡ with_told i s p (log_of n var_len_values told current runs)
nothing_log n var_len_values told current runs i s p past = ap (made (zones_of n (said var_len_values told) runs)) (sym (nothing_told n (said var_len_values current) i s p past))

-- ---- a stretch of what is told next

module _ (n : ℕ) (var_len_values : List ScalarValue) (told more current : List StatEntry) (runs : List EntryRange) (is : IsLog var_len_values told current runs) (kept : AreKept (length var_len_values) more) (s : EntryRange) (from : s.from ≡ length told) (to : s.to ≡ length told + length more) where
  abbrev before : List Saying
  before = said var_len_values told

  abbrev behind : List Saying
  behind = said var_len_values more

  next : IsNext before behind s
  next = record {
    from = from ∙ sym (length-map told (saying var_len_values));
    to = to ∙ sym (length-append before behind ∙ ap₂ (λ (a b : ℕ). a + b) (length-map told (saying var_len_values)) (length-map more (saying var_len_values)));
  }

  both : said var_len_values (told ++ more) ≡ before ++ behind
  both = map-append (saying var_len_values) told more

  all_kept : AreKept (length var_len_values) (told ++ more)
  all_kept = all_append (λ (t : StatEntry). IsFormed (length var_len_values) t.form t.cell) told more is.told_kept kept

  is_log : (all now : List StatEntry) (ss : List EntryRange) → all ≡ told ++ more → AreKept (length var_len_values) now → AllByRecursion (IsWithin (length (before ++ behind))) ss → IsLog var_len_values all now ss
  is_log all now ss same there within = record {
    stretches = subst (λ (t : List Saying). AllByRecursion (IsWithin (length t)) ss) (sym (ap (said var_len_values) same ∙ both)) within;
    told_kept = subst (AreKept (length var_len_values)) (sym same) all_kept;
    current_kept = there;
  }

  -- the zones end with it
  pub ended_is_log : (all now : List StatEntry) (ss : List EntryRange) → all ≡ told ++ more → now ≡ [] → ss ≡ runs ++ s ∷ [] → IsLog var_len_values all now ss
  ended_is_log all now ss same none pushed =
      let P = IsWithin (length (before ++ behind)) in
      is_log all now ss same (subst (AreKept (length var_len_values)) (sym none) tt)
      (subst (AllByRecursion P) (sym pushed) (all_append P runs (s ∷ []) (others_within before behind s next runs is.stretches) (next_is_within before behind s next, tt)))

  pub zones_with : (all : List StatEntry) (ss : List EntryRange) → all ≡ told ++ more → ss ≡ runs ++ s ∷ [] → zones_of n (said var_len_values all) ss ≡ zones_of n before runs ++ record { rows = s.rows; stats = sets_of n behind } ∷ []
  zones_with all ss same pushed = ap₂ (zones_of n) (ap (said var_len_values) same ∙ both) pushed ∙ zones_ended before behind s next n runs is.stretches

  -- two of them became one with it
  pub joined_is_log : (i : ℕ) (all : List StatEntry) (ss : List EntryRange) → all ≡ told ++ more → ss ≡ take i runs ++ s ∷ drop (i + 2) runs → IsLog var_len_values all current ss
  joined_is_log i all ss same pushed =
      is_log all current ss same is.current_kept (subst (AllByRecursion (IsWithin (length (before ++ behind)))) (sym pushed) (joined_within n before behind s next runs is.stretches i))

  pub joined_log : (i : ℕ) (all : List StatEntry) (ss : List EntryRange) (left right : ZoneData) (sets : List Entries) → all ≡ told ++ more → ss ≡ take i runs ++ s ∷ drop (i + 2) runs
      → slice_get (zones_of n before runs) i ≡ Some left → slice_get (zones_of n before runs) (i + 1) ≡ Some right → s.rows ≡ left.rows + right.rows → sets ≡ merged_sets left.stats right.stats → sets_of (length sets) behind ≡ sets
      → joined_at i (zones_of n before runs) ≡ Some (zones_of n (said var_len_values all) ss)
  joined_log i all ss left right sets same pushed first second rows merged says =
      joined_zones n before behind s next runs is.stretches i left right sets first second rows merged says
      ∙ ap Some (sym (ap₂ (zones_of n) (ap (said var_len_values) same ∙ both) pushed))

-- the zone that hadn't ended has
pub ended_log : (n : ℕ) (var_len_values : List ScalarValue) (told current : List StatEntry) (runs : List EntryRange) (is : IsLog var_len_values told current runs) (s : EntryRange) (from : s.from ≡ length told) (to : s.to ≡ length told + length current) (all now : List StatEntry) (ss : List EntryRange)
    → all ≡ told ++ current → now ≡ [] → ss ≡ runs ++ s ∷ [] → log_of n var_len_values all now ss ≡ ended s.rows (log_of n var_len_values told current runs)
ended_log n var_len_values told current runs is s from to all now ss same none pushed =
    ap₂ made (zones_with n var_len_values told current current runs is is.current_kept s from to all ss same pushed) (ap (λ l. sets_of n (said var_len_values l)) none ∙ none_told n (said var_len_values current))
