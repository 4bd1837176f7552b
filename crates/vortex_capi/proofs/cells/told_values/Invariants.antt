use Rattle.std.proofs.Common.{◌≡◌, Ok, Some}
use Rattle.vortex_base.specs.Data.ArrayData.{cell_values}
use Rattle.vortex_capi.specs.MapCells.{told_cells}
use Rattle.vortex_capi.proofs.cells.told_values.Given as goal

abbrev pub invariant-loop-place : goal.invariant-loop-place
invariant-loop-place l = told_cells l.aggregate (Some l.source) l.rows l.from l.place ≡ Ok (cell_values l.cells)
