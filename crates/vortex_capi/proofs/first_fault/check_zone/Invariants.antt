use Rattle.std.proofs.Common.{List}
use Rattle.vortex_base.specs.Data.Scopes.{Named}
use Rattle.vortex_capi.proofs.FaultLemmas.{FirstRead, StepsTo}
use Rattle.vortex_capi.proofs.first_fault.check_zone.Given as goal

-- the statistics so far have a value, and make sets of any scope
abbrev pub invariant-loop-entry : goal.invariant-loop-entry
invariant-loop-entry l = record {
  read : FirstRead l.sources l.zone l.entry;
  found : (scope : List Named) → StepsTo scope l.zone l.sources l.entry;
}
