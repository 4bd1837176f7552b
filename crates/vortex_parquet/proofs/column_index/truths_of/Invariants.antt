use Rattle.std.proofs.Common.{◌≡◌, ◌-◌}
use Rattle.vortex_parquet.specs.Fields.{many}
use Rattle.vortex_parquet.specs.PageIndex.{truth_at}
use Rattle.vortex_parquet.proofs.Loops.{with_all}
use Rattle.vortex_parquet.proofs.column_index.truths_of.Given as goal

abbrev pub invariant-loop : goal.invariant-loop
invariant-loop l = with_all l.truths.items (many truth_at (l.count - l.counter) l.rest) ≡ many truth_at l.count l.bytes
