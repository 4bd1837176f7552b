use Rattle.std.proofs.Common.{Err, ap, sym, ◌∙◌}
use Rattle.vortex_capi.proofs.MergeLemmas.{wanted_next, wanted_stops}
use Rattle.vortex_capi.proofs.merge_zones.stats_of.Goals as goal

pub returns-in-Err : goal.returns-in-Err
returns-in-Err c = λ _.
    wanted_stops c.args.dtype c.args.table.now c.loop-entry.entry c.number_at.result c.in-Err.status c.loop-entry.stats.items c.loop-entry-test.true c.number_at.ensures c.in-Err.ensures c.loop-entry.invariant
    ∙ ap Err (sym c.at_entry.ensures)

pub loop-entry-preserved : goal.loop-entry-preserved
loop-entry-preserved c =
    wanted_next c.args.dtype c.args.table.now c.loop-entry.entry c.number_at.result c.in-Ok.stat c.loop-entry.stats.items c.push.new.self.items c.loop-entry-test.true c.number_at.ensures c.in-Ok.ensures c.loop-entry.invariant c.in_ok-push-in-Ok.ensures.items
