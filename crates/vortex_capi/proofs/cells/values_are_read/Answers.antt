use Rattle.vortex_capi.proofs.CellLemmas.{one_more_read}
use Rattle.vortex_capi.proofs.cells.values_are_read.Goals as goal

pub loop-zone-preserved : goal.loop-zone-preserved
loop-zone-preserved c = one_more_read c.args.source.now c.loop-zone.zone c.loop-zone.invariant c.if-not-is_read.ensures
