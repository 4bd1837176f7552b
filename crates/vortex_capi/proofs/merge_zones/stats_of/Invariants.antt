use Rattle.std.proofs.Common.{◌≡◌, Ok, slice_index}
use Rattle.vortex_capi.specs.Measures.{stat_of}
use Rattle.vortex_capi.specs.Merges.{numbers_of}
use Rattle.vortex_capi.specs.Refusals.{all_read}
use Rattle.vortex_capi.specs.Statuses.{at_entry}
use Rattle.vortex_capi.proofs.merge_zones.stats_of.Given as goal

abbrev pub invariant-loop-entry : goal.invariant-loop-entry
invariant-loop-entry l = all_read at_entry (λ i. stat_of l.dtype (slice_index (numbers_of l.table) i)) l.entry ≡ Ok l.stats.items
