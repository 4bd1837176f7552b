use Rattle.std.proofs.Common.{Err, ap, sym, ◌∙◌}
use Rattle.vortex_capi.proofs.MergeLemmas.{common_next, common_stops}
use Rattle.vortex_capi.proofs.merge.common.Goals as goal

pub returns-in-Err : goal.returns-in-Err
returns-in-Err c = λ _.
    common_stops c.args.dtype c.args.left.now c.args.right.now c.loop-entry.entry c.number_at.result c.number_at-in-loop-entry.result c.in-Err.status c.loop-entry.stats.items c.if-left-right.false c.loop-entry-test.true c.number_at.ensures c.number_at-in-loop-entry.ensures
    c.in-Err.ensures c.loop-entry.invariant
    ∙ ap Err (sym c.at_entry-in-Err.ensures)

pub loop-entry-preserved : goal.loop-entry-preserved
loop-entry-preserved c =
    common_next c.args.dtype c.args.left.now c.args.right.now c.loop-entry.entry c.number_at.result c.number_at-in-loop-entry.result c.in-Ok.stat c.loop-entry.stats.items c.push.new.self.items c.if-left-right.false c.loop-entry-test.true c.number_at.ensures
    c.number_at-in-loop-entry.ensures c.in-Ok.ensures c.loop-entry.invariant c.in_ok-push-in-Ok.ensures.items
