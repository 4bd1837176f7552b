use Rattle.std.proofs.Common.{◌≡◌, Ok}
use Rattle.vortex_capi.specs.Arrow.{end_at}
use Rattle.vortex_capi.specs.Refusals.{all_read}
use Rattle.vortex_capi.specs.Statuses.{at_row}
use Rattle.vortex_capi.proofs.arrow.ArrowValues.text_ends.Given as goal

abbrev pub invariant-loop-row : goal.invariant-loop-row
invariant-loop-row l = all_read at_row (end_at l.self) l.row ≡ Ok l.ends.items
