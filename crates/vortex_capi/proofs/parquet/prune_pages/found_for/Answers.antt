use Rattle.vortex_predicates.specs.Conditions.Conditions.{schema_of}
use Rattle.std.proofs.Common.{List, ap, ap₂, map, ◌∙◌}
use Rattle.std.specs.Prelude.{ℕ}
use Rattle.vortex_parquet.specs.GroupPages.{tail_view}
use Rattle.vortex_parquet.specs.Records.{file_view}
use Rattle.vortex_predicates.specs.declared.parquet.page_ranges.PageRange.{PageRange}
use Rattle.vortex_prune.specs.declared.scan.verdict.Verdict.{Verdict}
use Rattle.vortex_sql.specs.Lowering.{opaques}
use Rattle.vortex_capi.specs.Spans.{span_at}
use Rattle.vortex_capi.specs.ParquetCalls.PagePrunes.{all_ranges as all_ranges_of}
use Rattle.vortex_capi.proofs.ParquetCalls.Answering.{spans_told}
use Rattle.vortex_capi.proofs.ParquetCalls.PageAnswering.{ranges_of}
use Rattle.vortex_capi.proofs.parquet.prune_pages.found_for.Goals as goal

pub returns-clause-ranges : goal.returns-clause-ranges
returns-clause-ranges c =
    let a = c.args.asked.now in
    let h = c.in_ok-pruned.ensures in
    ranges_of (tail_view c.args.tail) (file_view a.file) a.count a.condition.leaves.items a.condition.condition c.in_ok-pruned.pruned.ranges.items c.in_ok-pruned.pruned.stretches.items c.in_ok-pruned.pruned.groups.groups.items c.in_ok-pruned.pruned.verdicts.items c.in_ok-pruned.pruned.groups.verdicts.items c.in_ok-ranges.ranges.items h.known h.groups h.judged h.verdicts h.no_fewer h.sound h.placed h.long
    (c.in_ok-ranges.ensures ∙ ap₂ (λ (rs : List PageRange) (vs : List Verdict). all_ranges_of rs vs) c.deref.ensures.value c.deref-2.ensures.value)

pub returns-clause-unread : goal.returns-clause-unread
returns-clause-unread c =
    let x = c.args.asked.now.condition.condition in
    c.in_ok-unread.ensures ∙ ap (λ (places : List (ℕ × ℕ)). map span_at places) c.unread.ensures ∙ spans_told (opaques (schema_of x) x.condition)
