use Rattle.std.proofs.Common.{◌≡◌, Ok, slice_index}
use Rattle.vortex_capi.specs.Merges.{common_stat, numbers_of}
use Rattle.vortex_capi.specs.Refusals.{all_read}
use Rattle.vortex_capi.specs.Statuses.{at_entry}
use Rattle.vortex_capi.proofs.merge.common.Given as goal

abbrev pub invariant-loop-entry : goal.invariant-loop-entry
invariant-loop-entry l = all_read at_entry (λ i. common_stat l.dtype (slice_index (numbers_of l.left) i) (slice_index (numbers_of l.right) i)) l.entry ≡ Ok l.stats.items
