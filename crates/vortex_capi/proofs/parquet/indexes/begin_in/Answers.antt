use Rattle.std.proofs.lemmas.Result.{err_from_is_err_and}
use Rattle.vortex_parquet.specs.Records.{file_view}
use Rattle.vortex_capi.proofs.ParquetCalls.IndexTold.{begin_found, begin_refused, no_footer}
use Rattle.vortex_capi.proofs.parquet.indexes.begin_in.Goals as goal

pub returns-in_err-file-clause-refused : goal.returns-in_err-file-clause-refused
returns-in_err-file-clause-refused c =
    let p = err_from_is_err_and c.from_residual.result c.from_residual.ensures.1 in
    rw (p.1, p.2) (no_footer c.args.footer.now c.in_err-file.field-0.0 c.in_err-file.ensures)

pub returns-clause-begin : goal.returns-clause-begin
returns-clause-begin c = begin_found c.args.footer.now (file_view c.in_ok-file.file) c.indexes_begin.result c.in_ok-file.ensures c.indexes_begin.ensures.begin

pub returns-clause-refused : goal.returns-clause-refused
returns-clause-refused c = begin_refused c.args.footer.now (file_view c.in_ok-file.file) c.indexes_begin.result c.in_ok-file.ensures c.indexes_begin.ensures.refused
