use Rattle.std.proofs.Common.{◌≡◌, ◌+◌, ap, arith, length, rules, subst, sym, ◌∙◌}
use Rattle.std.proofs.lemmas.List.{length-set}
use Rattle.std.specs.Prelude.{slice_set}
use Rattle.vortex_stats.proofs.Sets.SlotLemmas.{number_below}
use Rattle.vortex_capi.specs.MapCells.{AreLasts}
use Rattle.vortex_capi.proofs.EntryLemmas.{last_passed, no_lasts, one_more_last, source_slot}
use Rattle.vortex_capi.proofs.PlaceLemmas.{of_some, place_there}
use Rattle.vortex_capi.proofs.cells.last_entries.Goals as goal
use Rattle.vortex_capi.proofs.cells.last_entries.Goals.{then-source-columns, else-source-columns}

pub loop-entry-init : goal.loop-entry-init
loop-entry-init c = record {
  wide = search rules;
  last =
      let made = of_some c.vec.result _ c.in_ok-lasts.lasts c.in_ok-lasts.ensures.value c.vec.ensures.items_if_clones_equal in
      no_lasts c.args.sources.now c.in_ok-checked_mul.field-0 c.in_ok-lasts.lasts.items (made (λ y h. h));
}

pub loop-entry-preserved : goal.loop-entry-preserved
loop-entry-preserved c =
    let xs = c.args.sources.now in
    let n = c.loop-entry.entry in
    let x = c.source_there-source.result.now in
    let old = c.loop-entry.lasts.items in
    elim c.if-source-columns.branch [
      | then-source-columns w ↦
          let there = place_there x.statistic.column c.args.columns _ (number_below x.stat) w.if-source-columns.true in
          let set : c.if-source-columns.lasts.items ≡ slice_set old (source_slot x) n = ap (λ v. v.items) w.lasts-is ∙ ap (λ k. slice_set old k n) w.stat_place.ensures in
          record {
            wide = ap length set ∙ length-set old (source_slot x) n ∙ c.loop-entry.invariant.wide;
            last =
                subst (AreLasts xs (n + 1)) (sym set)
                (one_more_last xs n x old c.source_there-source.ensures (omega (arith, there, c.loop-entry.invariant.wide)) c.loop-entry.invariant.last);
          }
      | else-source-columns w ↦
          let same : c.if-source-columns.lasts.items ≡ old = ap (λ v. v.items) w.lasts-is in
          record {
            wide = ap length same ∙ c.loop-entry.invariant.wide;
            last =
                subst (AreLasts xs (n + 1)) (sym same)
                (last_passed xs n c.args.columns x old c.source_there-source.ensures c.loop-entry.invariant.wide w.if-source-columns.false c.loop-entry.invariant.last);
          }
    ]
