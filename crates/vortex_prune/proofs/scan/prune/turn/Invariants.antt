use Rattle.std.proofs.Common.{◌≡◌, ◌++◌, drop, map, take}
use Rattle.std.specs.Prelude.{not}
use Rattle.vortex_prune.proofs.scan.prune.turn.Given as goal

-- the marks before this one are turned
abbrev pub invariant-loop-place : goal.invariant-loop-place
invariant-loop-place l = l.marks ≡ map not (take l.place l.initial.marks) ++ drop l.place l.initial.marks
