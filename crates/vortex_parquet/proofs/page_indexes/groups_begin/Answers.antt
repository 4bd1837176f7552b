use Rattle.std.proofs.lemmas.Result.{err_from_is_err_and}
use Rattle.vortex_parquet.proofs.PageIndexes.{groups_done, groups_fail, groups_go, groups_start}
use Rattle.vortex_parquet.proofs.page_indexes.groups_begin.Goals as goal

pub loop-init : goal.loop-init
loop-init c = groups_start c.args.count c.args.bytes.now

pub returns-in_err-found-clause-refused : goal.returns-in_err-found-clause-refused
returns-in_err-found-clause-refused c =
    let p = err_from_is_err_and c.from_residual.result c.from_residual.ensures.1 in
    rw (p.1, p.2) (groups_fail c.in_err-found.field-0.0 c.args.count c.loop.counter c.args.bytes.now c.loop.rest.now c.loop.begin c.loop-test.true c.in_err-found.ensures.refused c.loop.invariant)

pub loop-preserved : goal.loop-preserved
loop-preserved c = rw c.lesser-begin.ensures (groups_go c.args.count c.loop.counter c.args.bytes.now c.loop.rest.now c.in_ok-found.after.now c.loop.begin c.in_ok-found.found c.loop-test.true c.in_ok-found.ensures.begin c.loop.invariant)

pub returns-clause-begin : goal.returns-clause-begin
returns-clause-begin c = groups_done c.args.count c.loop.counter c.args.bytes.now c.loop.rest.now c.loop.begin c.loop-test.false c.loop.invariant
