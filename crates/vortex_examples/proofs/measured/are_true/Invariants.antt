use Rattle.std.proofs.Common.{◌↔◌, drop}
use Rattle.std.specs.List.{AllByRecursion}
use Rattle.vortex_prune.specs.Part.{IsTruePart}
use Rattle.vortex_examples.proofs.measured.are_true.Given as goal

-- the parts so far are true, so the rest decide
abbrev pub invariant-loop-part : goal.invariant-loop-part
invariant-loop-part l = AllByRecursion IsTruePart (drop l.part-index l.parts) ↔ AllByRecursion IsTruePart l.parts
