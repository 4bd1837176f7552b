use Rattle.std.proofs.Common.{◌≡◌, ◌++◌, take}
use Rattle.vortex_prune.proofs.scan.selected_rows.push_pairs.Given as goal

-- the rows before this one were added
abbrev pub invariant-loop-part : goal.invariant-loop-part
invariant-loop-part l = l.pairs.items ≡ l.fn.pairs.items ++ take l.part-index l.rows
