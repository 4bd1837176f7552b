use Rattle.std.proofs.Common.{◌≡◌, ◌++◌, ◌+◌, ◌-◌, ◌≤◌, vec_capacity, vec_len}
use Rattle.vortex_prune.proofs.Scanning.SelectLemmas.{pairs_below}
use Rattle.vortex_prune.proofs.scan.selected_rows.push_all.Given as goal

-- the rows before this one were added, and there is room for the others
abbrev pub invariant-loop-row : goal.invariant-loop-row
invariant-loop-row l = record {
  added : l.rows.items ≡ l.fn.rows.items ++ pairs_below l.part l.row;
  room : vec_len l.rows + (l.count - l.row) ≤ vec_capacity l.rows;
}
