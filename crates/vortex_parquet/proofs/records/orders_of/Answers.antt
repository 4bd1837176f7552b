use Rattle.std.proofs.lemmas.Result.{err_from_is_err_and}
use Rattle.vortex_parquet.specs.Fields.{many}
use Rattle.vortex_parquet.specs.Records.{order_of}
use Rattle.vortex_parquet.proofs.Loops.{many_goes, many_fails, many_done}
use Rattle.vortex_parquet.proofs.records.orders_of.Goals as goal

pub returns-in_err-order : goal.returns-in_err-order
returns-in_err-order c =
    let p = err_from_is_err_and c.from_residual.result c.from_residual.ensures.1 in
    rw (p.1, p.2) (many_fails c.in_err-order.field-0.0 order_of (c.loop.orders.items) c.args.count c.loop.counter c.loop.rest.now (many order_of c.args.count c.args.bytes.now) c.loop-test.true c.in_err-order.ensures c.loop.invariant)

pub loop-preserved : goal.loop-preserved
loop-preserved c =
    rw c.in_ok-push.ensures.items (many_goes order_of (c.loop.orders.items) c.args.count c.loop.counter c.loop.rest.now (c.in_ok-order.order) c.in_ok-order.after.now (many order_of c.args.count c.args.bytes.now) c.loop-test.true c.in_ok-order.ensures c.loop.invariant)

pub returns : goal.returns
returns c = many_done order_of (c.loop.orders.items) c.args.count c.loop.counter c.loop.rest.now (many order_of c.args.count c.args.bytes.now) c.loop-test.false c.loop.invariant
