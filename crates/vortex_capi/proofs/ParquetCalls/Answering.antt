-- What is told of row groups.
use Rattle.std.proofs.Common.{◌≡◌, ℕ, List, [], ◌∷◌, Ok, length, map, refl, ap, inl, arith, ◌∙◌}
use Rattle.vortex_predicates.specs.Pruning.{skipped_places, whole_places}
use Rattle.vortex_parquet.specs.Records.{FileData}
use Rattle.vortex_parquet.specs.Stats.{group_view, groups_of}
use Rattle.vortex_parquet.specs.declared.columns.Leaf.{Leaf}
use Rattle.vortex_parquet.specs.declared.stats.GroupStats.{GroupStats}
use Rattle.vortex_predicates.specs.RowGroups.Pruning.{zone_data}
use Rattle.vortex_predicates.specs.Footers.Pruning.{PrunesCondition}
use Rattle.vortex_predicates.proofs.Footers.Refusing.{same_zones}
use Rattle.vortex_prune.specs.Scanning.ZoneScans.{zone_verdicts}
use Rattle.vortex_prune.specs.declared.scan.verdict.Verdict.{Verdict}
use Rattle.vortex_predicates.specs.Conditions.Conditions.{ProvedCondition, schema_of}
use Rattle.vortex_sql.specs.Lowering.{span_of}
use Rattle.vortex_sql.specs.declared.syntax.tree.Leaf.{Leaf as Leaf'}
use Rattle.vortex_capi.specs.Spans.{leaf_span, span_at}
use Rattle.vortex_capi.specs.ParquetCalls.FooterPrunes.{AreFound, AreWritten, IsAnsweredBy, IsShort, Places, all_told}
use Rattle.vortex_capi.specs.declared.span.Span.{Span}
use Rattle.vortex_capi.specs.declared.parquet.row_group.RowGroup.{RowGroup}
use Rattle.vortex_capi.proofs.ParquetCalls.Told.{length_told}

pub found_of : (file : FileData) (count : ℕ) (ls : List Leaf) (x : ProvedCondition) (gs : List GroupStats) (vs : List Verdict) (told : List RowGroup) → groups_of ls count file ≡ Ok (map group_view gs)
    → vs ≡ zone_verdicts x.falsifier x.satisfier x.scope (map zone_data gs) → PrunesCondition (schema_of x) x.condition ls file (skipped_places vs) (whole_places vs) → length gs ≡ file.groups.count → length vs ≡ length gs
    → told ≡ all_told (map group_view gs) vs → AreFound file count ls x told
found_of file count ls x gs vs told known judged sound counted long is = record {
  known = map group_view gs;
  are_known = known;
  verdicts = vs;
  judged = judged ∙ ap (zone_verdicts x.falsifier x.satisfier x.scope) (same_zones gs);
  sound = sound;
  are_told = is;
  many = ap length is ∙ length_told gs vs long ∙ counted;
}

pub spans_told : (ls : List Leaf') → map span_at (map span_of ls) ≡ map leaf_span ls
spans_told [] = refl
spans_told (l ∷ ls) = ap (λ (spans : List Span). leaf_span l ∷ spans) (spans_told ls)

-- ---- what is answered

pub short_as : (file : FileData) (count : ℕ) (ls : List Leaf) (x : ProvedCondition) (old new : Places) → new.groups ≡ old.groups → new.unread ≡ old.unread → new.fault ≡ old.fault
    → IsShort file x old.groups old.unread new.found_len new.unread_len → IsAnsweredBy file count ls x old new 3
short_as file count ls x old new groups unread fault short = record {
  written = λ z. absurd (omega arith);
  groups = λ z. groups;
  unread = λ z. unread;
  found_len = λ z n. absurd (n refl);
  unread_len = λ z n. absurd (n refl);
  told = λ z. fault;
  lack = λ z n. inl (refl, short);
}

pub written_as : (file : FileData) (count : ℕ) (ls : List Leaf) (x : ProvedCondition) (old new : Places) → new.fault ≡ old.fault
    → AreWritten file count ls x old.groups old.unread new.groups new.unread new.found_len new.unread_len → IsAnsweredBy file count ls x old new 0
written_as file count ls x old new fault written = record {
  written = λ z. written;
  groups = λ n. absurd (n refl);
  unread = λ n. absurd (n refl);
  found_len = λ n m. absurd (n refl);
  unread_len = λ n m. absurd (n refl);
  told = λ z. fault;
  lack = λ n m. absurd (n refl);
}
