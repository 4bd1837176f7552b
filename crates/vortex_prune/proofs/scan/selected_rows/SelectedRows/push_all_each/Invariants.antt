use Rattle.std.proofs.Common.{◌≡◌, ◌++◌}
use Rattle.vortex_prune.proofs.Scanning.SelectLemmas.{pairs_below}
use Rattle.vortex_prune.proofs.scan.selected_rows.SelectedRows.push_all_each.Given as goal

-- the rows before this one were added
abbrev pub invariant-loop-row : goal.invariant-loop-row
invariant-loop-row l = l.self ≡ l.fn.self ++ pairs_below l.part l.row
