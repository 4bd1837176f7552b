use Rattle.std.proofs.Common.{◌≡◌, ◌≤◌, map, drop}
use Rattle.vortex_parquet.specs.Columns.{column_views, columns_in}
use Rattle.vortex_parquet.specs.Records.{element_view}
use Rattle.vortex_parquet.proofs.ColumnLoop.{with_columns}
use Rattle.vortex_parquet.proofs.columns.columns_in.Given as goal

abbrev pub invariant-loop-place : goal.invariant-loop-place
invariant-loop-place l = record {
  few : l.columns.leaves ≤ l.place;
  so_far : with_columns (column_views l.columns.columns.items) (columns_in l.inside l.columns.leaves (drop l.place (map element_view l.elements))) ≡ columns_in 0 0 (map element_view l.elements);
}
