use Rattle.std.proofs.Common.{◌≡◌, Ok}
use Rattle.vortex_base.specs.Data.ArrayData.{cell_values}
use Rattle.vortex_capi.specs.Refusals.{all_read}
use Rattle.vortex_capi.specs.Statuses.{at_row}
use Rattle.vortex_capi.specs.Values.{cell}
use Rattle.vortex_capi.proofs.values.Values.cells.Given as goal

abbrev pub invariant-loop-row : goal.invariant-loop-row
invariant-loop-row l = all_read at_row (cell l.dtype l.self.values.now l.self.start l.self.ends.now l.self.nulls.now) l.row ≡ Ok (cell_values l.cells)
