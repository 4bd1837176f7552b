use Rattle.std.proofs.Common.{Some, map, take}
use Rattle.std.specs.Prelude.{option_map}
use Rattle.vortex_capi.specs.MapCells.{TellsValues}
use Rattle.vortex_capi.proofs.numbers.put_exactly.Given as goal

-- the numbers before this one are put
abbrev pub invariant-loop-place : goal.invariant-loop-place
invariant-loop-place g l = TellsValues l.source l.from l.place (map (option_map g.N.Native.scalar) (map Some (take l.place l.numbers)))
