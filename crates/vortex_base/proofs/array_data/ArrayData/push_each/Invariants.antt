use Rattle.std.proofs.Common.{◌≡◌, ◌++◌, take}
use Rattle.vortex_base.specs.Data.ArrayData.{cell_values}
use Rattle.vortex_base.proofs.array_data.ArrayData.push_each.Given as goal

-- the values as they were, and the others so far behind them
abbrev pub invariant-loop-i : goal.invariant-loop-i
invariant-loop-i l = cell_values l.self ≡ cell_values l.initial.self ++ take l.i (cell_values l.others)
