use Rattle.std.proofs.Common.{◌<◌, ◌-◌, ◌^◌, arith, length}
use Rattle.std.proofs.lemmas.List.Sums.{sum_by_more, sum_by_more_le}
use Rattle.vortex_prune.proofs.Scanning.RangeLemmas.{ranges_next, tested_next}
use Rattle.vortex_prune.proofs.ZoneMaps.ZonePruned.{places_next}
use Rattle.vortex_prune.specs.Scanning.Selection.{is_skipped, is_whole}
use Rattle.vortex_prune.proofs.scan.ranges.scan_counts.Goals as goal

pub loop-place-preserved : goal.loop-place-preserved
loop-place-preserved c =
    let i = c.loop-place.place in
    let vs = c.args.verdicts.now in
    let ns = c.args.counts.now in
    let inv = c.loop-place.invariant in
    let h = c.loop-place-test.true in
    let g : i < length ns = omega (arith, c.requires.long) in
    let more = sum_by_more (λ x. x) ns i 0 g in
    let within = sum_by_more_le (λ x. x) ns i 0 g in
    record {
      first = omega (arith, more);
      within = (tested_next vs ns i _ 0 _ _ c.loop-place.first c.rows-rows.result (2 ^ 64 - 1) h g c.in_ok-record_range.ensures.evaluated inv.within (omega arith) (omega arith) inv.evaluated).1;
      skipped = places_next is_skipped vs i _ _ _ h c.in_ok-record_range.ensures.skipped inv.skipped;
      whole = places_next is_whole vs i _ _ _ h c.in_ok-record_range.ensures.whole inv.whole;
      selected = ranges_next c.args.predicate.now c.args.chunk.now c.args.from vs ns i c.loop-place.first _ 0 _ _ h g inv.first c.in_ok-record_range.ensures.selected inv.selected;
      evaluated = (tested_next vs ns i _ 0 _ _ c.loop-place.first c.rows-rows.result (2 ^ 64 - 1) h g c.in_ok-record_range.ensures.evaluated inv.within (omega arith) (omega arith) inv.evaluated).0;
    }
