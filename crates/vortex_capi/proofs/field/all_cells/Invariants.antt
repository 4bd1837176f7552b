use Rattle.std.proofs.Common.{◌≡◌, map, take}
use Rattle.vortex_capi.specs.LogicalKinds.{cells_told}
use Rattle.vortex_capi.proofs.field.all_cells.Given as goal

-- what the values of the first columns stand for
abbrev pub invariant-loop-field : goal.invariant-loop-field
invariant-loop-field l = l.cells.items ≡ map cells_told (take l.field-index l.fields)
