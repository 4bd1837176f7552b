use Rattle.std.proofs.Common.{◌≡◌, take}
use Rattle.vortex_base.specs.Data.Columns.{all_appended}
use Rattle.vortex_base.proofs.column.append.extend_each.Given as goal

-- the columns so far have the values of those beside them
abbrev pub invariant-loop-place : goal.invariant-loop-place
invariant-loop-place l = all_appended l.initial.columns (take l.place l.others) ≡ l.columns
