use Rattle.std.proofs.Common.{◌≡◌, Ok}
use Rattle.vortex_capi.specs.Merges.{filled_at}
use Rattle.vortex_capi.specs.Refusals.{stepped}
use Rattle.vortex_capi.proofs.merge.filled.Given as goal

abbrev pub invariant-loop-entry : goal.invariant-loop-entry
invariant-loop-entry l = stepped (filled_at l.side l.dtype l.zones l.table) tt l.entry ≡ Ok tt
