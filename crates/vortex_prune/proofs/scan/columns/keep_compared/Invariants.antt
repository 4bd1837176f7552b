use Rattle.std.proofs.Common.{◌≡◌, ◌++◌, drop, map, take}
use Rattle.std.specs.Prelude.{option_map}
use Rattle.vortex_base.specs.Data.PrimitiveArray.{optionals}
use Rattle.vortex_prune.specs.Scanning.Leaves.{compares_at}
use Rattle.vortex_prune.specs.Scanning.Marks.{marked}
use Rattle.vortex_prune.proofs.scan.columns.keep_compared.Given as goal

-- the marks before this one were looked at
abbrev pub invariant-loop-k : goal.invariant-loop-k
invariant-loop-k g l = l.marks ≡ marked (compares_at g.C.Comparison.operator (g.T.Native.scalar l.number) (map (option_map g.T.Native.scalar) (optionals l.values l.validity))) l.from (take l.k l.initial.marks) ++ drop l.k l.initial.marks
