use Rattle.std.proofs.Common.{◌≡◌, ◌++◌, drop, map, take}
use Rattle.vortex_base.specs.Data.Columns.{emptied}
use Rattle.vortex_base.proofs.column.append.clear_each.Given as goal

-- the columns so far are emptied
abbrev pub invariant-loop-column : goal.invariant-loop-column
invariant-loop-column l = take l.column-index l.columns ++ map emptied (drop l.column-index l.columns) ≡ map emptied l.initial.columns
