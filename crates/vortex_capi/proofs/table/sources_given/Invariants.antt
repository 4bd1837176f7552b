use Rattle.std.proofs.Common.{◌≡◌, All, Ok, slice_get}
use Rattle.vortex_capi.specs.Refusals.{all_read}
use Rattle.vortex_capi.specs.Statuses.{at_entry}
use Rattle.vortex_capi.specs.Tables.{IsTypedBy, source_or}
use Rattle.vortex_capi.proofs.table.sources_given.Given as goal

abbrev pub invariant-loop-entry : goal.invariant-loop-entry
invariant-loop-entry l = (all_read at_entry (λ i. source_or l.scope l.zones (slice_get l.table i)) l.entry ≡ Ok l.sources.items) × All (IsTypedBy l.scope) l.sources.items
