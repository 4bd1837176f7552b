use Rattle.std.proofs.Common.{◌≡◌, ◌<◌, ℕ, Some, slice_get}
use Rattle.vortex_capi.specs.MapCells.{AreRead}
use Rattle.vortex_capi.specs.declared.table.Source.{Source}
use Rattle.vortex_capi.proofs.cells.all_read.Given as goal

abbrev pub invariant-loop-entry : goal.invariant-loop-entry
invariant-loop-entry l = (i : ℕ) (x : Source) → i < l.entry → slice_get l.sources i ≡ Some x → AreRead x l.zones
