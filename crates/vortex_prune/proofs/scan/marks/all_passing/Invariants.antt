use Rattle.std.proofs.Common.{◌≡◌, ◌-◌, ◌≤◌, Some, length, take, vec_len}
use Rattle.vortex_prune.specs.Scanning.Marks.{is_told, marked}
use Rattle.vortex_prune.proofs.scan.marks.all_passing.Given as goal

-- the blocks so far
abbrev pub invariant-runs : goal.invariant-runs
invariant-runs l = record {
  within : vec_len l.told ≤ length l.marks;
  told : l.told.items ≡ marked (is_told (Some l.bound) l.map) 0 (take (vec_len l.told) l.marks);
}

abbrev pub decreases-runs : goal.decreases-runs
decreases-runs l = length l.marks - vec_len l.told
