use Rattle.vortex_parquet.proofs.PageIndexes.{IsGroupsBeginTo}
use Rattle.vortex_parquet.proofs.page_indexes.groups_begin.Given as goal

abbrev pub invariant-loop : goal.invariant-loop
invariant-loop l = IsGroupsBeginTo l.count l.counter l.bytes l.rest l.begin
