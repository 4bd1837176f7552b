use Rattle.std.proofs.Common.{◌<◌, ℕ}
use Rattle.vortex_capi.specs.MapCells.{IsRead}
use Rattle.vortex_capi.proofs.cells.values_are_read.Given as goal

abbrev pub invariant-loop-zone : goal.invariant-loop-zone
invariant-loop-zone l = (zone : ℕ) → zone < l.zone → IsRead l.source zone
