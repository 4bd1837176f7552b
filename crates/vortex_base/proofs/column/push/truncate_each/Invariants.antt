use Rattle.std.proofs.Common.{◌≡◌, ◌++◌, drop, map, take}
use Rattle.vortex_base.specs.Data.Columns.{cut_to}
use Rattle.vortex_base.proofs.column.push.truncate_each.Given as goal

-- the columns so far are cut
abbrev pub invariant-loop-column : goal.invariant-loop-column
invariant-loop-column l = take l.column-index l.columns ++ map (cut_to l.len) (drop l.column-index l.columns) ≡ map (cut_to l.len) l.initial.columns
