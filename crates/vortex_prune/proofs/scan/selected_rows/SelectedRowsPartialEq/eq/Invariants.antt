use Rattle.std.proofs.Common.{◌≡◌, drop}
use Rattle.vortex_prune.specs.Scanning.SelectedRows.{rows_eq}
use Rattle.vortex_prune.proofs.scan.selected_rows.SelectedRowsPartialEq.eq.Given as goal

-- the rows so far are the same
abbrev pub invariant-loop-i : goal.invariant-loop-i
invariant-loop-i l = rows_eq l.self l.other ≡ rows_eq (drop l.i l.self) (drop l.i l.other)
