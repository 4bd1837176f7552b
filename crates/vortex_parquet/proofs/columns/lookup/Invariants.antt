use Rattle.std.proofs.Common.{◌≡◌}
use Rattle.vortex_parquet.specs.Columns.{column_views}
use Rattle.vortex_parquet.proofs.Lookup.{found_before}
use Rattle.vortex_parquet.proofs.columns.lookup.Given as goal

abbrev pub invariant-loop-column : goal.invariant-loop-column
invariant-loop-column l = l.found ≡ found_before l.name (column_views l.columns) l.column-index
