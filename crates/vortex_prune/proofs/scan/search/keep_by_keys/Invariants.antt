use Rattle.std.proofs.Common.{◌≡◌, ◌++◌, drop, take}
use Rattle.vortex_prune.specs.Scanning.Gaps.{are_passed_at}
use Rattle.vortex_prune.specs.Scanning.Marks.{marked}
use Rattle.vortex_prune.proofs.scan.search.keep_by_keys.Given as goal

-- the marks before this one were looked at
abbrev pub invariant-loop-k : goal.invariant-loop-k
invariant-loop-k g l = l.marks ≡ marked (are_passed_at l.gaps l.asked.above.now l.asked.below.now l.asked.flag.now) l.from (take l.k l.initial.marks) ++ drop l.k l.initial.marks
