use Rattle.vortex_capi.specs.Checks.{AreTrueBefore}
use Rattle.vortex_capi.proofs.check.check_each.Given as goal

abbrev pub invariant-loop-entry : goal.invariant-loop-entry
invariant-loop-entry l = AreTrueBefore l.column l.zone l.stats l.entry
