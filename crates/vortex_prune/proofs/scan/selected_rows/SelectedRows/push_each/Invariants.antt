use Rattle.std.proofs.Common.{◌≡◌, ◌++◌, take}
use Rattle.vortex_prune.specs.Scanning.Marks.{marked_rows}
use Rattle.vortex_prune.proofs.scan.selected_rows.SelectedRows.push_each.Given as goal

-- the marked rows before this one were added
abbrev pub invariant-loop-k : goal.invariant-loop-k
invariant-loop-k l = l.self ≡ l.fn.self ++ marked_rows l.part l.from (take l.k l.marks)
