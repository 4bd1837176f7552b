use Rattle.std.proofs.Common.{◌↔◌, drop}
use Rattle.vortex_prune.specs.Part.{AreTrueSets, IsTruePart}
use Rattle.vortex_prune.proofs.part.Part.is_true.Given as goal

-- the sets so far are true, so the rest decides
abbrev pub invariant-loop-i : goal.invariant-loop-i
invariant-loop-i l = AreTrueSets (drop l.i l.self.chunk.columns) (drop l.i l.self.stats) ↔ IsTruePart l.self
