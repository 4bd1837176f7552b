-- The promises of scans of one chunk, from the verdicts on the rows of the table.
use Rattle.std.proofs.Common.{◌≡◌, ℕ, Bool, true, false, List, Ok, Err, Result, IfErr, IfOk, IsTrue, length, refl, subst, sym, ap, ap₂, ◌∙◌}
use Rattle.std.specs.Prelude.{alloc_error}
use Rattle.vortex_base.specs.Data.Columns.{ChunkData}
use Rattle.vortex_expr.specs.Meanings.Fitting.{fits_scope}
use Rattle.vortex_expr.specs.Trees.Tree.{Place, Tree, is_plain}
use Rattle.vortex_prune.proofs.Scanning.PartPromises.{err_same, no_longer}
use Rattle.vortex_prune.proofs.Scanning.RangeParts.{kept_by, ranges_are_parts, same_scope_from}
use Rattle.vortex_prune.proofs.Scanning.TrueRanges.{ranges_full}
use Rattle.vortex_prune.proofs.ZoneMaps.TrueRows.{are_row_verdicts, skipped_rows_sound, whole_rows_sound}
use Rattle.vortex_prune.proofs.ZoneMaps.ZonePruned.{pruned_is_shut, skipped_listed, whole_listed}
use Rattle.vortex_prune.proofs.ZoneMaps.ZoneRefusals.{most_refused_for_memory}
use Rattle.vortex_zone_map.specs.Zone.{ZoneData}
use Rattle.vortex_prune.specs.Scanning.Found.{Found}
use Rattle.vortex_prune.specs.Scanning.Promises.{RefusesRanges, ScansRanges}
use Rattle.vortex_prune.specs.Scanning.RangeScans.{has_ranges_from, ranges_by, tested_by}
use Rattle.vortex_prune.specs.Scanning.Selection.{is_skipped, is_whole, places_where}
use Rattle.vortex_prune.specs.Scanning.ZoneScans.{AreRowVerdicts, IsShutIfVerdict, is_left_open, most_causes, pruning_causes, row_verdicts, zone_verdicts}
use Rattle.vortex_prune.specs.Zones.{zones_of}
use Rattle.vortex_zone_map.specs.ZoneMaps.{HasTable, IsMapOf, MapData}
use Rattle.vortex_prune.specs.declared.scan.verdict.Verdict.{Verdict}
use Rattle.vortex_rewrite.specs.Causes.{IsRefusal}
use Rattle.vortex_rewrite.specs.Rewriting.Falsifiers.{falsifier, satisfier}
use Rattle.vortex_rewrite.specs.Rewriting.Lawful.{OwnRule}
use Rattle.vortex_rewrite.specs.Rewriting.Predicates.{is_predicate}
use Rattle.vortex_stats.specs.declared.error.StatsError.{StatsError}
use Rattle.vortex_stats.specs.declared.error.StatsError.TheVariants as fault

-- what follows from four things that are so of an answer is so of it
pub of_four : {X E : Type 0} (r : Result X E) (P Q S U T : X → Type 0) → ((x : X) → P x → Q x → S x → U x → T x) → IfOk r P → IfOk r Q → IfOk r S → IfOk r U → IfOk r T
of_four (Ok x) P Q S U T f p q s u = f x p q s u
of_four (Err e) P Q S U T f p q s u = tt

-- ---- what is found

module _ (rules : List OwnRule) (p : Tree Place) (k : ChunkData) (from : ℕ) (m : MapData) (table : HasTable m) (plain : IsTrue (is_plain p)) (fits : IsTrue (fits_scope p k.scope)) (has : IsTrue (has_ranges_from k from m)) where
  fits_map : IsTrue (fits_scope p m.scope)
  fits_map = ap (fits_scope p) (sym (same_scope_from k from m has)) ∙ fits

  module _ (vs : List Verdict) (rows : AreRowVerdicts (falsifier rules p) (satisfier rules p) m vs) (told : (zones : List ZoneData) → IsMapOf zones m → vs ≡ zone_verdicts (falsifier rules p) (satisfier rules p) m.scope zones) (long : length vs ≡ length m.rows) (predicate : IsTrue (is_predicate p)) (closed : is_left_open (falsifier rules p) m.rows ≡ false) (shut : IsShutIfVerdict (satisfier rules p) vs) where
    module _ (lent : List Verdict) (ns : List ℕ) (found : Found) (is : lent ≡ vs) (counted : ns ≡ m.rows) (skipped : found.skipped ≡ places_where is_skipped lent) (whole : found.whole ≡ places_where is_whole lent) (selected : found.selected ≡ ranges_by p k 0 from lent ns) (evaluated : found.evaluated ≡ tested_by lent ns) where
      by_rows : lent ≡ row_verdicts (falsifier rules p) (satisfier rules p) m
      by_rows = is ∙ are_row_verdicts (falsifier rules p) (satisfier rules p) m vs rows long

      pub scans_ranges : ScansRanges rules p k from m found
      scans_ranges =
          let f = falsifier rules p in
          let s = satisfier rules p in
          record {
            rows_skipped = skipped ∙ ap (places_where is_skipped) by_rows;
            rows_whole = whole ∙ ap (places_where is_whole) by_rows;
            rows_kept = selected ∙ ap₂ (ranges_by p k 0 from) by_rows counted;
            rows_evaluated = evaluated ∙ ap₂ tested_by by_rows counted;
            skipped_sound = skipped_rows_sound rules p m table predicate plain fits_map f s found.skipped (skipped ∙ ap (places_where is_skipped) by_rows) refl;
            whole_sound = whole_rows_sound rules p m table predicate plain fits_map f s found.whole (whole ∙ ap (places_where is_whole) by_rows) refl;
            rows_full = λ are. selected ∙ ap₂ (ranges_by p k 0 from) by_rows counted ∙ ranges_full rules p m table predicate plain fits_map k from are;
            skipped = λ zones of. skipped ∙ ap (places_where is_skipped) (is ∙ told zones of) ∙ skipped_listed f s m.scope zones;
            whole = λ zones of. whole ∙ ap (places_where is_whole) (is ∙ told zones of) ∙ whole_listed f s m.scope zones;
            kept = λ zones of. kept_by f s p k from m zones lent ns found.selected of (is ∙ told zones of) counted selected;
            parted = λ parts are.
                kept_by f s p k from m (zones_of parts) lent ns found.selected are.is_map (is ∙ told (zones_of parts) are.is_map) counted selected ∙ ranges_are_parts f s p k from m parts are;
            evaluated = λ zones of. evaluated ∙ ap₂ tested_by (is ∙ told zones of) (counted ∙ ap (λ (x : MapData). x.rows) of.same);
            predicate = predicate;
            closed = closed;
            kept_closed = pruned_is_shut s m.rows vs found.skipped long (skipped ∙ ap (places_where is_skipped) is) shut;
          }

-- ---- what is refused

module _ (rules : List OwnRule) (p : Tree Place) (m : MapData) where
  no_mismatch : (b : Bool) (e : StatsError) → is_predicate p ≡ b → (is_predicate p ≡ false → e ≡ fault.NotPredicate) → (IsTrue (is_predicate p) → IsRefusal (most_causes rules p m.rows) e) → e ≡ fault.Mismatch → ⊥
  no_mismatch true e is other most h = subst (IsRefusal (most_causes rules p m.rows)) h (most is)
  no_mismatch false e is other most h = let both = sym (other is) ∙ h in cc

  -- a refusal promises the same of whatever would be answered
  pub refused_alike : {X Y : Type 0} (are : Bool) (e : StatsError) → RefusesRanges {X = X} are rules p m (Err e) → RefusesRanges {X = Y} are rules p m (Err e)
  refused_alike are e refused = record {
    mismatch = ((λ h. refused.mismatch.0 (ap Err (err_same h))), (λ untrue. ap Err (err_same (refused.mismatch.1 untrue))));
    memory = refused.memory;
    not_predicate = λ shown untrue. ap Err (err_same (refused.not_predicate shown untrue));
    refusal = refused.refusal;
    at_most = refused.at_most;
  }

module _ {X : Type 0} (rules : List OwnRule) (p : Tree Place) (m : MapData) where
  -- where the zones aren't ranges of the chunk
  pub no_ranges : (are : Bool) → are ≡ false → RefusesRanges {X = X} are rules p m (Err fault.Mismatch)
  no_ranges are untrue = record {
    mismatch = ((λ h. untrue), (λ h. refl));
    memory = λ shown predicate none. no_longer are shown untrue;
    not_predicate = λ shown other. no_longer are shown untrue;
    refusal = λ shown predicate. no_longer are shown untrue;
    at_most = λ shown predicate. no_longer are shown untrue;
  }

  -- where there is no verdict on each zone
  pub no_verdicts : (are : Bool) (e : StatsError) → are ≡ true → (is_predicate p ≡ false → e ≡ fault.NotPredicate)
      → (IsTrue (is_predicate p) → (zones : List ZoneData) → IsMapOf zones m → IsRefusal (pruning_causes rules p m.scope zones) e)
      → (IsTrue (is_predicate p) → IsRefusal (most_causes rules p m.rows) e) → RefusesRanges {X = X} are rules p m (Err e)
  no_verdicts are e shown other cause most = record {
    mismatch = ((λ h. absurd (no_mismatch rules p m (is_predicate p) e refl other most (err_same h))), (λ untrue. no_longer are shown untrue));
    memory = λ again predicate none. most_refused_for_memory {X = X} rules p m.rows (Err e) none (most predicate);
    not_predicate = λ again untrue. ap Err (other untrue);
    refusal = λ again predicate. cause predicate;
    at_most = λ again predicate. most predicate;
  }

  -- where memory was refused, or nothing was
  pub by_verdicts : (are : Bool) (r : Result X StatsError) → are ≡ true → IsTrue (is_predicate p) → IfErr r (λ e. e ≡ fault.Memory alloc_error) → RefusesRanges are rules p m r
  by_verdicts are (Ok scan) shown predicate memory = record {
    mismatch = ((λ h. absurd cc), (λ untrue. no_longer are shown untrue));
    memory = λ again also none. tt;
    not_predicate = λ again untrue. no_longer (is_predicate p) predicate untrue;
    refusal = λ again also. tt;
    at_most = λ again also. tt;
  }
  by_verdicts are (Err e) shown predicate memory =
      subst (λ (f : StatsError). RefusesRanges {X = X} are rules p m (Err f)) (sym memory)
      (no_verdicts are (fault.Memory alloc_error) shown (λ untrue. no_longer (is_predicate p) predicate untrue) (λ also zones of. tt) (λ also. tt))

  -- the same of ranges from the first row on
  pub as_from_first : (are from : Bool) (r : Result X StatsError) → are ≡ true → from ≡ true → RefusesRanges from rules p m r → RefusesRanges are rules p m r
  as_from_first are from r shown also refuses = subst (λ (b : Bool). RefusesRanges b rules p m r) (also ∙ sym shown) refuses
