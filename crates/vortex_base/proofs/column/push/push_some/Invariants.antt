use Rattle.std.proofs.Common.{◌≡◌, ◌++◌, ℕ, IsTrue, drop, map, take}
use Rattle.vortex_base.specs.Data.Columns.{all_long, cut_to, row_fits, with_row}
use Rattle.vortex_base.proofs.column.push.push_some.Given as goal

-- the columns so far have their values, the others fit those that are left, and cut to their length all are as before
abbrev pub invariant-loop-value : goal.invariant-loop-value
invariant-loop-value l = record {
  row : take l.place l.columns ++ with_row (drop l.place l.columns) l.value-iterator.rest.items ≡ with_row l.initial.columns l.fn.values.items;
  fits : IsTrue (row_fits (drop l.place l.columns) l.value-iterator.rest.items);
  cut : (n : ℕ) → IsTrue (all_long n l.initial.columns) → map (cut_to n) l.columns ≡ l.initial.columns;
  long : (n : ℕ) → IsTrue (all_long n l.initial.columns) → IsTrue (all_long n (drop l.place l.columns));
}
