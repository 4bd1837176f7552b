use Rattle.std.proofs.Common.{Err, slice_index, sym, ap, ◌∙◌, length}
use Rattle.vortex_capi.specs.Measures.{stat_of}
use Rattle.vortex_capi.specs.Statuses.{at_entry}
use Rattle.vortex_capi.proofs.ReadLemmas.{stops}
use Rattle.vortex_capi.proofs.measure.wanted_of.Goals as goal

pub returns-in-Err : goal.returns-in-Err
returns-in-Err c = λ _.
    stops at_entry (λ i. stat_of c.args.dtype (slice_index c.args.numbers.now i)) c.loop-entry.entry (length c.args.numbers.now) c.loop-entry.wanted.items c.in-Err.status c.loop-entry.invariant (sym c.in-Err.ensures) c.loop-entry-test.true
    ∙ ap Err (sym c.at_entry.ensures)
