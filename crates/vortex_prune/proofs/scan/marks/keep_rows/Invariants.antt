use Rattle.std.proofs.Common.{◌≡◌, ◌++◌, drop, take}
use Rattle.vortex_prune.specs.Scanning.Marks.{is_true_at, marked}
use Rattle.vortex_prune.proofs.scan.marks.keep_rows.Given as goal

-- the marks before this one were looked at
abbrev pub invariant-loop-k : goal.invariant-loop-k
invariant-loop-k l = l.marks ≡ marked (is_true_at l.e l.table.chunk.now.columns l.table.counts) l.from (take l.k l.initial.marks) ++ drop l.k l.initial.marks
