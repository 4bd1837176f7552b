use Rattle.std.proofs.Common.{◌≡◌, ◌-◌}
use Rattle.vortex_parquet.specs.Fields.{many}
use Rattle.vortex_parquet.specs.PageIndex.{count_at}
use Rattle.vortex_parquet.proofs.Loops.{with_all}
use Rattle.vortex_parquet.proofs.column_index.counts_of.Given as goal

abbrev pub invariant-loop : goal.invariant-loop
invariant-loop l = with_all l.counts.items (many count_at (l.number - l.counter) l.rest) ≡ many count_at l.number l.bytes
