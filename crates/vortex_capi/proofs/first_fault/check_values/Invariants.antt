use Rattle.std.proofs.Common.{List}
use Rattle.vortex_base.specs.Data.Scopes.{Named}
use Rattle.vortex_capi.specs.MapCells.{AllRead}
use Rattle.vortex_capi.proofs.FaultLemmas.{FindsZones}
use Rattle.vortex_capi.proofs.first_fault.check_values.Given as goal

-- the zones so far are read, and found in any scope
abbrev pub invariant-loop-zone : goal.invariant-loop-zone
invariant-loop-zone l = record {
  read : AllRead l.sources l.zone;
  found : (scope : List Named) → FindsZones scope l.sources l.rows l.zone;
}
