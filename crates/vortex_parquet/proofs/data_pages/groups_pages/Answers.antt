use Rattle.std.proofs.lemmas.Result.{err_from_is_err_and}
use Rattle.vortex_parquet.specs.DataPages.{groups_pages as pages_in}
use Rattle.vortex_parquet.specs.GroupPages.{tail_view}
use Rattle.vortex_parquet.proofs.DataPages.{groups_done, groups_fail, groups_go, groups_start}
use Rattle.vortex_parquet.proofs.data_pages.groups_pages.Goals as goal

pub loop-group-init : goal.loop-group-init
loop-group-init c = rw c.new-pages.ensures.items (groups_start (tail_view c.args.tail) c.args.columns c.args.count c.args.bytes.now)

pub returns-in_err-found : goal.returns-in_err-found
returns-in_err-found c =
    let p = err_from_is_err_and c.from_residual.result c.from_residual.ensures.1 in
    let total = pages_in (tail_view c.args.tail) c.args.columns 0 c.args.count c.args.bytes.now in
    rw (p.1, p.2) (groups_fail c.in_err-found.field-0.0 (tail_view c.args.tail) c.args.columns c.loop-group.pages.items c.args.count c.loop-group.group c.loop-group.rest.now total c.loop-group-test.true c.in_err-found.ensures c.loop-group.invariant)

pub loop-group-preserved : goal.loop-group-preserved
loop-group-preserved c =
    let total = pages_in (tail_view c.args.tail) c.args.columns 0 c.args.count c.args.bytes.now in
    rw c.in_ok-append.ensures.items (groups_go (tail_view c.args.tail) c.args.columns c.loop-group.pages.items c.args.count c.loop-group.group c.loop-group.rest.now c.in_ok-found.found.items c.in_ok-found.after.now total c.loop-group-test.true c.in_ok-found.ensures c.loop-group.invariant)

pub returns : goal.returns
returns c =
    let total = pages_in (tail_view c.args.tail) c.args.columns 0 c.args.count c.args.bytes.now in
    groups_done (tail_view c.args.tail) c.args.columns c.loop-group.pages.items c.args.count c.loop-group.group c.loop-group.rest.now total c.loop-group-test.false c.loop-group.invariant
