use Rattle.std.proofs.Common.{◌≡◌, ◌++◌, drop, map, take}
use Rattle.std.specs.Prelude.{option_map}
use Rattle.vortex_prune.specs.Scanning.Leaves.{compares_at}
use Rattle.vortex_prune.specs.Scanning.Marks.{marked}
use Rattle.vortex_prune.proofs.scan.strings.keep_compared.Given as goal

-- the marks before this one were looked at
abbrev pub invariant-loop-k : goal.invariant-loop-k
invariant-loop-k g l = l.marks ≡ marked (compares_at g.C.Comparison.operator (g.S.Strings.scalar l.other) (map (option_map g.S.Strings.scalar) (g.S.Strings.strings l.strings))) l.from (take l.k l.initial.marks) ++ drop l.k l.initial.marks
