use Rattle.std.proofs.Common.{◌≡◌, Ok}
use Rattle.vortex_capi.specs.Merges.{merged_set}
use Rattle.vortex_capi.specs.Refusals.{all_found}
use Rattle.vortex_capi.proofs.merge.merged_sets.Given as goal

abbrev pub invariant-loop-zone : goal.invariant-loop-zone
invariant-loop-zone l = all_found (merged_set l.dtype l.left l.right) l.zone ≡ Ok l.sets.items
