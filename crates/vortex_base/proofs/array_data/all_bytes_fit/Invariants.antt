use Rattle.std.proofs.Common.{◌≡◌, map, take, true}
use Rattle.vortex_base.specs.Data.ArrayData.{bytes_value}
use Rattle.vortex_base.specs.Data.Columns.{all_fit}
use Rattle.vortex_base.proofs.array_data.all_bytes_fit.Given as goal

-- the values so far fit
abbrev pub invariant-loop-i : goal.invariant-loop-i
invariant-loop-i l = all_fit l.dtype (take l.i (map bytes_value l.blobs)) ≡ true
