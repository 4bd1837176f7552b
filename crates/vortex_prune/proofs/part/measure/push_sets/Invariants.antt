use Rattle.std.proofs.Common.{◌≡◌, ◌++◌, ◌≤◌, drop, length}
use Rattle.std.specs.Prelude.{vec_capacity}
use Rattle.vortex_prune.specs.Part.{measured_sets}
use Rattle.vortex_prune.proofs.part.measure.push_sets.Given as goal

-- the sets so far, and those of the columns to come, are all
abbrev pub invariant-loop-i : goal.invariant-loop-i
invariant-loop-i l = record {
  count : length l.sets.items ≡ l.i;
  room : length l.chunk.scope ≤ vec_capacity l.sets;
  measured : l.sets.items ++ measured_sets (drop l.i l.chunk.columns) ≡ measured_sets l.chunk.columns;
}
