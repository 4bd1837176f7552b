use Rattle.std.proofs.Common.{arith}
use Rattle.std.proofs.lemmas.Option.{slice_get_within}
use Rattle.vortex_capi.proofs.CellLemmas.{one_more_source}
use Rattle.vortex_capi.proofs.cells.all_read.Goals as goal

pub loop-entry-preserved : goal.loop-entry-preserved
loop-entry-preserved c =
    one_more_source c.args.sources.now c.args.zones c.loop-entry.entry c.source_there-source.result.now c.source_there-source.ensures c.loop-entry.invariant c.if-not-are_read.ensures

pub returns : goal.returns
returns c = λ i x at. c.loop-entry.invariant i x (omega (arith, slice_get_within c.args.sources.now i x at, c.loop-entry-test.false)) at
