use Rattle.vortex_parquet.specs.Records.{file_view}
use Rattle.vortex_parquet.proofs.PageIndexes.{file_fails, file_reads}
use Rattle.vortex_parquet.proofs.page_indexes.indexes_begin.Goals as goal

pub returns-clause-begin : goal.returns-clause-begin
returns-clause-begin c = file_reads (file_view c.args.file.now) c.groups_begin.result c.groups_begin.ensures.begin

pub returns-clause-refused : goal.returns-clause-refused
returns-clause-refused c = file_fails (file_view c.args.file.now) c.groups_begin.result c.groups_begin.ensures.refused
