use Rattle.std.proofs.Common.{◌≡◌, take}
use Rattle.vortex_prune.specs.Scanning.Marks.{marked_verdicts}
use Rattle.vortex_prune.proofs.scan.prune.put_verdicts.Given as goal

-- the verdicts before this one are put
abbrev pub invariant-loop-place : goal.invariant-loop-place
invariant-loop-place l = take l.place l.verdicts ≡ marked_verdicts (take l.place l.skipped) (take l.place l.whole)
