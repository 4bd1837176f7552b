use Rattle.std.proofs.Common.{◌≡◌, ◌++◌, drop, take}
use Rattle.vortex_prune.specs.Scanning.Leaves.{passes_at}
use Rattle.vortex_prune.specs.Scanning.Marks.{marked}
use Rattle.vortex_prune.proofs.scan.columns.keep_values.Given as goal

-- the marks before this one were looked at
abbrev pub invariant-loop-k : goal.invariant-loop-k
invariant-loop-k l = l.marks ≡ marked (passes_at l.test l.column.values) l.from (take l.k l.initial.marks) ++ drop l.k l.initial.marks
