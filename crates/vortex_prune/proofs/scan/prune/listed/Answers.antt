use Rattle.vortex_prune.proofs.ZoneMaps.ZonePruned.{places_next}
use Rattle.vortex_prune.specs.Scanning.Selection.{is_skipped, is_whole}
use Rattle.vortex_prune.proofs.scan.prune.listed.Goals as goal

pub loop-place-preserved : goal.loop-place-preserved
loop-place-preserved c = record {
  skipped = places_next is_skipped c.args.verdicts.now c.loop-place.place _ _ _ c.loop-place-test.true c.in_ok-record.ensures.skipped c.loop-place.invariant.skipped;
  whole = places_next is_whole c.args.verdicts.now c.loop-place.place _ _ _ c.loop-place-test.true c.in_ok-record.ensures.whole c.loop-place.invariant.whole;
}
