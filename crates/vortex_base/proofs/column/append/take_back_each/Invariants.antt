use Rattle.std.proofs.Common.{◌≡◌, List, length, take}
use Rattle.vortex_base.specs.Data.Columns.{ColumnData, all_appended}
use Rattle.vortex_base.proofs.column.append.take_back_each.Given as goal

-- the columns before the place have what was added to them
abbrev pub invariant-loop-place : goal.invariant-loop-place
invariant-loop-place l = record {
  added : (cs : List ColumnData) → all_appended cs (take l.count l.others) ≡ l.initial.columns → all_appended cs (take l.place l.others) ≡ l.columns;
  long : length l.columns ≡ length l.initial.columns;
}
