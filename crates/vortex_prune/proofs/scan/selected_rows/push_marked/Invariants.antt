use Rattle.std.proofs.Common.{◌≡◌, ◌++◌, ◌+◌, ◌-◌, ◌≤◌, length, take, vec_capacity, vec_len}
use Rattle.vortex_prune.specs.Scanning.Marks.{marked_rows}
use Rattle.vortex_prune.proofs.scan.selected_rows.push_marked.Given as goal

-- the marked rows before this one were added, and there is room for the others
abbrev pub invariant-loop-k : goal.invariant-loop-k
invariant-loop-k l = record {
  added : l.rows.items ≡ l.fn.rows.items ++ marked_rows l.part l.from (take l.k l.marks);
  room : vec_len l.rows + (length l.marks - l.k) ≤ vec_capacity l.rows;
}
