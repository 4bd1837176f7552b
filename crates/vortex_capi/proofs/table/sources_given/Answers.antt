use Rattle.std.proofs.Common.{Err, ap, length, slice_get, sym, ◌∙◌}
use Rattle.vortex_capi.specs.Statuses.{at_entry}
use Rattle.vortex_capi.specs.Tables.{source_or}
use Rattle.vortex_capi.proofs.ReadLemmas.{stops}
use Rattle.vortex_capi.proofs.TableLemmas.{sources_next}
use Rattle.vortex_capi.proofs.table.sources_given.Goals as goal

pub returns-in-Err-clause-read : goal.returns-in-Err-clause-read
returns-in-Err-clause-read c = λ _.
    stops at_entry (λ i. source_or c.args.scope.now c.args.zones (slice_get c.args.table.now i)) c.loop-entry.entry (length c.args.table.now) c.loop-entry.sources.items c.in-Err.status c.loop-entry.invariant.0 (sym c.in-Err.ensures.read) c.loop-entry-test.true
    ∙ ap Err (sym c.at_entry.ensures)

pub loop-entry-preserved : goal.loop-entry-preserved
loop-entry-preserved c =
    sources_next c.args.scope.now c.args.zones c.args.table.now c.loop-entry.entry c.in-Ok.source c.loop-entry.sources.items c.push.new.self.items c.in-Ok.ensures.read c.in-Ok.ensures.typed c.in_ok-push-in-Ok.ensures.items c.loop-entry.invariant
