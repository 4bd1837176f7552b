use Rattle.std.proofs.Common.{◌≡◌, map, option_map, take, true}
use Rattle.vortex_base.specs.Data.Columns.{all_fit}
use Rattle.vortex_base.proofs.array_data.all_natives_fit.Given as goal

-- the values so far fit
abbrev pub invariant-loop-i : goal.invariant-loop-i
invariant-loop-i g l = all_fit l.dtype (take l.i (map (option_map g.T.Native.scalar) l.natives)) ≡ true
