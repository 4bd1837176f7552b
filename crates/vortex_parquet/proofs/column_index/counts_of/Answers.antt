use Rattle.std.proofs.lemmas.Result.{err_from_is_err_and}
use Rattle.vortex_parquet.specs.Fields.{many}
use Rattle.vortex_parquet.specs.PageIndex.{count_at}
use Rattle.vortex_parquet.proofs.Loops.{many_goes, many_fails, many_done}
use Rattle.vortex_parquet.proofs.column_index.counts_of.Goals as goal

pub returns-in_err-one : goal.returns-in_err-one
returns-in_err-one c =
    let p = err_from_is_err_and c.from_residual.result c.from_residual.ensures.1 in
    rw (p.1, p.2) (many_fails c.in_err-one.field-0.0 count_at c.loop.counts.items c.args.number c.loop.counter c.loop.rest.now (many count_at c.args.number c.args.bytes.now) c.loop-test.true c.in_err-one.ensures c.loop.invariant)

pub loop-preserved : goal.loop-preserved
loop-preserved c =
    rw c.in_ok-push.ensures.items (many_goes count_at c.loop.counts.items c.args.number c.loop.counter c.loop.rest.now c.in_ok-one.one c.in_ok-one.after.now (many count_at c.args.number c.args.bytes.now) c.loop-test.true c.in_ok-one.ensures c.loop.invariant)

pub returns : goal.returns
returns c = many_done count_at c.loop.counts.items c.args.number c.loop.counter c.loop.rest.now (many count_at c.args.number c.args.bytes.now) c.loop-test.false c.loop.invariant
