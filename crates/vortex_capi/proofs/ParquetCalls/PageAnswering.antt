-- What a call about the pages of a file answers, and what it says where it is refused.
use Rattle.std.proofs.Common.{◌≡◌, ◌≢◌, ℕ, List, Ok, length, map, refl, ap, inl, inr, sym, arith, ◌∙◌}
use Rattle.std.proofs.lemmas.List.{length-map}
use Rattle.vortex_predicates.specs.Pruning.{skipped_places, whole_places}
use Rattle.vortex_parquet.specs.GroupPages.{TailData}
use Rattle.vortex_parquet.specs.Records.{FileData}
use Rattle.vortex_parquet.specs.Stats.{group_view, groups_of}
use Rattle.vortex_parquet.specs.declared.columns.Leaf.{Leaf}
use Rattle.vortex_parquet.specs.declared.stats.GroupStats.{GroupStats}
use Rattle.vortex_predicates.specs.RowGroups.Pruning.{zone_data}
use Rattle.vortex_predicates.specs.Footers.PagePruning.{DecidesNoFewer, IsPageFault, PrunesPages, by_groups}
use Rattle.vortex_predicates.specs.Footers.PagedGroups.{AreStretchesIn}
use Rattle.vortex_predicates.specs.declared.parquet.error.FooterError.{FooterError}
use Rattle.vortex_predicates.specs.declared.parquet.page_ranges.PageRange.{PageRange}
use Rattle.vortex_prune.specs.Scanning.ZoneScans.{zone_verdicts}
use Rattle.vortex_prune.specs.declared.scan.verdict.Verdict.{Verdict}
use Rattle.vortex_predicates.specs.Conditions.Conditions.{ProvedCondition, schema_of}
use Rattle.vortex_capi.specs.declared.fault.Fault.{Fault}
use Rattle.vortex_capi.specs.ParquetCalls.FooterPrunes.{IsAskRefusal, IsAsked}
use Rattle.vortex_capi.specs.ParquetCalls.PagePrunes.{ArePagesPruned, AreRangesFound, AreRangesWritten, AreTooMany, IsAnsweredByPages, PagePlaces, all_ranges}
use Rattle.vortex_capi.specs.ParquetCalls.Refusals.{of_footer}
use Rattle.vortex_capi.specs.Prunes.{IsToldAs}
use Rattle.vortex_capi.specs.Statuses.{status_number}
use Rattle.vortex_capi.specs.declared.fault.Refusal.{Refusal}
use Rattle.vortex_capi.specs.declared.status.Status.TheVariants.{NoMemory}
use Rattle.vortex_capi.proofs.PruneLemmas.{not_zero}
use Rattle.vortex_capi.specs.declared.parquet.row_range.RowRange.{RowRange}
use Rattle.vortex_predicates.proofs.Footers.Refusing.{same_zones}
use Rattle.vortex_capi.proofs.ParquetCalls.RangesTold.{ranges_told}

pub ranges_of : (t : TailData) (file : FileData) (count : ℕ) (ls : List Leaf) (x : ProvedCondition) (rs : List PageRange) (gs groups : List GroupStats) (vs ws : List Verdict) (told : List RowRange) → AreStretchesIn t ls count file rs (map group_view gs)
    → groups_of ls count file ≡ Ok (map group_view groups) → ws ≡ zone_verdicts x.falsifier x.satisfier x.scope (map zone_data groups)
    → vs ≡ by_groups ws rs (zone_verdicts x.falsifier x.satisfier x.scope (map zone_data gs)) → DecidesNoFewer ws rs vs → PrunesPages (schema_of x) x.condition t ls file rs (skipped_places vs) (whole_places vs) → length rs ≡ length gs → length vs ≡ length gs
    → told ≡ all_ranges rs vs → AreRangesFound t file count ls x told
ranges_of t file count ls x rs gs groups vs ws told known read by_footer judged no_fewer sound there long is = record {
  ranges = rs;
  known = map group_view gs;
  are_known = known;
  verdicts = vs;
  groups = map group_view groups;
  are_groups = read;
  group_verdicts = ws;
  groups_judged = by_footer ∙ ap (zone_verdicts x.falsifier x.satisfier x.scope) (same_zones groups);
  judged = judged ∙ ap (λ zs. by_groups ws rs (zone_verdicts x.falsifier x.satisfier x.scope zs)) (same_zones gs);
  no_fewer = no_fewer;
  sound = sound;
  are_told = is;
  many = ap length is ∙ ranges_told rs vs (long ∙ sym there) ∙ there ∙ sym (length-map gs group_view);
}

-- ---- where a call is asked

pub too_many : (t : TailData) (file : FileData) (count : ℕ) (ls : List Leaf) (x : ProvedCondition) (old new : PagePlaces) → new.ranges ≡ old.ranges → new.unread ≡ old.unread → new.fault ≡ old.fault
    → AreTooMany t file count ls x old new → IsAnsweredByPages t file count ls x old new 3
too_many t file count ls x old new ranges unread fault short = record {
  written = λ z. absurd (omega arith);
  ranges = λ z. ranges;
  unread = λ z. unread;
  found_len = λ z n. absurd (n refl);
  unread_len = λ z n. absurd (n refl);
  told = λ z. fault;
  lack = λ z n. inl (refl, short);
}

pub ranges_written : (t : TailData) (file : FileData) (count : ℕ) (ls : List Leaf) (x : ProvedCondition) (old new : PagePlaces) → new.fault ≡ old.fault → AreRangesWritten t file count ls x old new → IsAnsweredByPages t file count ls x old new 0
ranges_written t file count ls x old new fault written = record {
  written = λ z. written;
  ranges = λ n. absurd (n refl);
  unread = λ n. absurd (n refl);
  found_len = λ n m. absurd (n refl);
  unread_len = λ n m. absurd (n refl);
  told = λ z. fault;
  lack = λ n m. absurd (n refl);
}

-- a fault of the row groups or their pages is told
pub pages_refused : (t : TailData) (file : FileData) (count : ℕ) (ls : List Leaf) (x : ProvedCondition) (old new : PagePlaces) (result : ℕ) (e : FooterError) → IsPageFault x t ls count file e → IsToldAs (of_footer e) result new.fault
    → new.ranges ≡ old.ranges → new.unread ≡ old.unread → new.found_len ≡ old.found_len → new.unread_len ≡ old.unread_len → IsAnsweredByPages t file count ls x old new result
pages_refused t file count ls x old new result e fault put ranges unread found unread_len = record {
  written = λ z. absurd (not_zero (of_footer e).status (sym put.0 ∙ z));
  ranges = λ z. ranges;
  unread = λ z. unread;
  found_len = λ z n. found;
  unread_len = λ z n. unread_len;
  told = λ z. absurd (not_zero (of_footer e).status (sym put.0 ∙ z));
  lack = λ z n. inr (record { error = e; refused = fault; told = put });
}

-- ---- a whole call

pub pages_answered : (footer text : List ℕ) (t : TailData) (flags : ℕ) (file : FileData) (count : ℕ) (ls : List Leaf) (x : ProvedCondition) (old new : PagePlaces) (result : ℕ) → IsAsked footer text flags file count ls x → IsAnsweredByPages t file count ls x old new result
    → ArePagesPruned footer text t flags old new result
pages_answered footer text t flags file count ls x old new result asked h = record {
  answered = λ z. record { file = file; count = count; ls = ls; condition = x; asked = asked; written = h.written z };
  ranges = h.ranges;
  unread = h.unread;
  found_len = h.found_len;
  unread_len = h.unread_len;
  told = h.told;
  refused = λ z n. inr (record { file = file; count = count; ls = ls; condition = x; asked = asked; lack = h.lack z n });
}

pub pages_not_asked : (footer text : List ℕ) (t : TailData) (flags : ℕ) (old : PagePlaces) (r : Refusal) (result : ℕ) (fault : Fault) → (r.status ≢ NoMemory → IsAskRefusal footer text flags r) → IsToldAs r result fault
    → ArePagesPruned footer text t flags old (record { ranges = old.ranges; unread = old.unread; found_len = old.found_len; unread_len = old.unread_len; fault = fault }) result
pages_not_asked footer text t flags old r result fault cause put = record {
  answered = λ z. absurd (not_zero r.status (sym put.0 ∙ z));
  ranges = λ z. refl;
  unread = λ z. refl;
  found_len = λ z n. refl;
  unread_len = λ z n. refl;
  told = λ z. absurd (not_zero r.status (sym put.0 ∙ z));
  refused = λ z n. inl (record { refusal = r; cause = cause (λ memory. n (put.0 ∙ ap status_number memory)); told = put });
}
