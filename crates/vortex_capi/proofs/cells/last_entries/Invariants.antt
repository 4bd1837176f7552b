use Rattle.std.proofs.Common.{◌≡◌, ◌*◌, length}
use Rattle.vortex_capi.specs.MapCells.{AreLasts}
use Rattle.vortex_capi.proofs.cells.last_entries.Given as goal

-- the last of the statistics so far
abbrev pub invariant-loop-entry : goal.invariant-loop-entry
invariant-loop-entry l = record {
  wide : length l.lasts.items ≡ l.columns * 9;
  last : AreLasts l.sources l.entry l.lasts.items;
}
