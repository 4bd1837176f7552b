use Rattle.std.proofs.Common.{◌≡◌, true, take}
use Rattle.std.specs.List.{list_all}
use Rattle.vortex_base.specs.Data.Columns.{all_long, is_column}
use Rattle.vortex_base.proofs.chunk.all_long.Given as goal

abbrev pub invariant-loop-column : goal.invariant-loop-column
invariant-loop-column l = record {
  long : all_long l.rows (take l.column-index l.columns) ≡ true;
  are_columns : list_all is_column (take l.column-index l.columns) ≡ true;
}
