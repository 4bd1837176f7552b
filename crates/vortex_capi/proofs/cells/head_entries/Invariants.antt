use Rattle.std.proofs.Common.{◌≡◌, length}
use Rattle.vortex_capi.specs.MapCells.{AreCounting}
use Rattle.vortex_capi.proofs.cells.head_entries.Given as goal

-- the heads so far
abbrev pub invariant-loop-place : goal.invariant-loop-place
invariant-loop-place l = record {
  long : length l.entries.items ≡ l.place;
  counting : AreCounting l.sources l.heads l.entries.items;
}
