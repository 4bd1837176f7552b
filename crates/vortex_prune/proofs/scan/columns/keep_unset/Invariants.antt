use Rattle.std.proofs.Common.{◌≡◌, ◌++◌, drop, false, take}
use Rattle.std.specs.Prelude.{not, slice_index_or}
use Rattle.vortex_prune.specs.Scanning.Marks.{marked}
use Rattle.vortex_prune.proofs.scan.columns.keep_unset.Given as goal

-- the marks before this one were looked at
abbrev pub invariant-loop-k : goal.invariant-loop-k
invariant-loop-k l = l.marks ≡ marked (λ i. not (slice_index_or l.validity i false)) l.from (take l.k l.initial.marks) ++ drop l.k l.initial.marks
