use Rattle.std.proofs.Common.{◌≡◌, ◌+◌, take}
use Rattle.std.specs.Prelude.{sum}
use Rattle.vortex_prune.proofs.scan.ranges.rows_behind.Given as goal

-- what is left of the rows behind the counts before this one
abbrev pub invariant-loop-place : goal.invariant-loop-place
invariant-loop-place l = l.left + sum (take l.place l.counts) ≡ l.fn.rows
