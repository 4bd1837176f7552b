use Rattle.std.proofs.Common.{◌≡◌, ◌++◌, take, drop}
use Rattle.vortex_prune.specs.Scanning.Marks.{left_marked}
use Rattle.vortex_prune.proofs.scan.marks.take_marks.Given as goal

-- the marks before this one were looked at
abbrev pub invariant-loop-k : goal.invariant-loop-k
invariant-loop-k l = l.marks ≡ left_marked (take l.k l.initial.marks) (take l.k l.others) ++ drop l.k l.initial.marks
