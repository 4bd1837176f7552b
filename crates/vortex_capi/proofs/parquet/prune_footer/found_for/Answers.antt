use Rattle.vortex_predicates.specs.Conditions.Conditions.{schema_of}
use Rattle.std.proofs.Common.{List, ap, ap₂, map, ◌∙◌}
use Rattle.std.specs.Prelude.{ℕ}
use Rattle.vortex_parquet.specs.Records.{file_view}
use Rattle.vortex_parquet.specs.Stats.{group_view}
use Rattle.vortex_parquet.specs.declared.stats.GroupStats.{GroupStats}
use Rattle.vortex_prune.specs.declared.scan.verdict.Verdict.{Verdict}
use Rattle.vortex_sql.specs.Lowering.{opaques}
use Rattle.vortex_capi.specs.Spans.{span_at}
use Rattle.vortex_capi.specs.ParquetCalls.FooterPrunes.{all_told}
use Rattle.vortex_capi.proofs.ParquetCalls.Answering.{found_of, spans_told}
use Rattle.vortex_capi.proofs.parquet.prune_footer.found_for.Goals as goal

pub returns-clause-groups : goal.returns-clause-groups
returns-clause-groups c =
    let a = c.args.asked.now in
    let h = c.in_ok-pruned.ensures in
    found_of (file_view a.file) a.count a.condition.leaves.items a.condition.condition c.in_ok-pruned.pruned.groups.items c.in_ok-pruned.pruned.verdicts.items c.in_ok-groups.groups.items h.known h.verdicts h.sound h.counted h.long
    (c.in_ok-groups.ensures ∙ ap₂ (λ (gs : List GroupStats) (vs : List Verdict). all_told (map group_view gs) vs) c.deref.ensures.value c.deref-2.ensures.value)

pub returns-clause-unread : goal.returns-clause-unread
returns-clause-unread c =
    let x = c.args.asked.now.condition.condition in
    c.in_ok-unread.ensures ∙ ap (λ (places : List (ℕ × ℕ)). map span_at places) c.unread.ensures ∙ spans_told (opaques (schema_of x) x.condition)
