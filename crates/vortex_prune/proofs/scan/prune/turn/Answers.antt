use Rattle.std.proofs.Common.{◌∙◌, refl}
use Rattle.vortex_prune.proofs.ZoneMaps.ZoneVerdicts.{turned_all, turned_more}
use Rattle.vortex_prune.proofs.scan.prune.turn.Goals as goal

pub loop-place-preserved : goal.loop-place-preserved
loop-place-preserved c = turned_more c.loop-place.place c.args.marks.now c.loop-place.marks _ c.loop-place.invariant c.loop-place-test.true refl

pub returns : goal.returns
returns c = c.loop-place.invariant ∙ turned_all c.loop-place.place c.args.marks.now c.loop-place-test.false
