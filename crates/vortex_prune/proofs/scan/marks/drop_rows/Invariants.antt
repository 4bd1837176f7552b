use Rattle.std.proofs.Common.{◌≡◌, ◌++◌, drop, take}
use Rattle.vortex_prune.specs.Scanning.Gaps.{is_untrue_at}
use Rattle.vortex_prune.specs.Scanning.Marks.{marked}
use Rattle.vortex_prune.proofs.scan.marks.drop_rows.Given as goal

-- the marks before this one were looked at
abbrev pub invariant-loop-k : goal.invariant-loop-k
invariant-loop-k l = l.marks ≡ marked (is_untrue_at l.e l.table.chunk.now.columns l.table.counts) l.from (take l.k l.initial.marks) ++ drop l.k l.initial.marks
