use Rattle.std.proofs.Common.{◌≡◌, take}
use Rattle.vortex_base.specs.Data.ArrayData.{cell_values}
use Rattle.vortex_base.proofs.array_data.ArrayData.widened.Given as goal

-- the values so far
abbrev pub invariant-loop-i : goal.invariant-loop-i
invariant-loop-i l = l.values.items ≡ take l.i (cell_values l.self)
