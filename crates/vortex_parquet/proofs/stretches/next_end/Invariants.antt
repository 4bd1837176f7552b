use Rattle.std.proofs.Common.{◌≡◌, drop, map}
use Rattle.vortex_parquet.specs.Stretches.{next_end as next_end_in, paged_view}
use Rattle.vortex_parquet.proofs.stretches.next_end.Given as goal

abbrev pub invariant-loop-column : goal.invariant-loop-column
invariant-loop-column l = next_end_in l.end (drop l.column-index (map paged_view l.columns)) ≡ next_end_in l.rows (map paged_view l.columns)
