use Rattle.std.proofs.lemmas.Result.{err_from_is_err_and}
use Rattle.vortex_parquet.specs.Records.{row_group_view}
use Rattle.vortex_parquet.proofs.PageIndexes.{chunks_unread, group_reads, group_unread}
use Rattle.vortex_parquet.proofs.page_indexes.group_begin.Goals as goal

pub returns-in_err-group-clause-refused : goal.returns-in_err-group-clause-refused
returns-in_err-group-clause-refused c =
    let p = err_from_is_err_and c.from_residual.result c.from_residual.ensures.1 in
    rw (p.1, p.2) (group_unread c.in_err-group.field-0.0 c.args.bytes.now c.in_err-group.ensures)

pub returns-in_err-begin-clause-refused : goal.returns-in_err-begin-clause-refused
returns-in_err-begin-clause-refused c =
    let p = err_from_is_err_and c.from_residual-in_err-begin.result c.from_residual-in_err-begin.ensures.1 in
    let e = c.in_err-begin.field-0.0 in
    rw (p.1, p.2) (chunks_unread e c.args.bytes.now (row_group_view c.in_ok-group.group) c.in_ok-group.rest.now c.in_ok-group.ensures (rw c.deref.ensures.value at c.in_err-begin.ensures.refused))

pub returns-clause-begin : goal.returns-clause-begin
returns-clause-begin c = group_reads c.args.bytes.now (row_group_view c.in_ok-group.group) c.in_ok-group.rest.now c.in_ok-begin.begin c.in_ok-group.ensures (rw c.deref.ensures.value at c.in_ok-begin.ensures.begin)
