use Rattle.std.proofs.Common.{◌+◌, ◌-◌, drop, arith}
use Rattle.vortex_text.proofs.LeftLemmas.{counts_front, rows_next}
use Rattle.vortex_text.proofs.parts.rows_from.Goals as goal

pub overflow_add-rows : goal.overflow_add-rows
overflow_add-rows c =
    let l = c.loop-place in
    let zones = c.args.log.now.zones in
    let next = rows_next zones c.args.from l.place c.rows.result (omega (arith, l.auto.place)) c.rows.ensures in
    let less = counts_front (l.place + 1 - c.args.from) c.args.count (drop c.args.from zones) (omega (arith, l.auto.place, c.loop-place-test.true)) in
    omega (arith, next, less, l.invariant, c.requires.few)

pub loop-place-preserved : goal.loop-place-preserved
loop-place-preserved c =
    let l = c.loop-place in
    let zones = c.args.log.now.zones in
    omega (arith, rows_next zones c.args.from l.place c.rows.result (omega (arith, l.auto.place)) c.rows.ensures, l.invariant)
