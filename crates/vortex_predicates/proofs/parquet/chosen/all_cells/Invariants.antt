use Rattle.std.proofs.Common.{◌≡◌, map, take}
use Rattle.vortex_predicates.specs.Footers.Choosing.{cells_of}
use Rattle.vortex_predicates.proofs.parquet.chosen.all_cells.Given as goal

-- what the cells of the first leaves stand for
abbrev pub invariant-loop-leaf : goal.invariant-loop-leaf
invariant-loop-leaf l = l.cells.items ≡ map cells_of (take l.leaf-index l.leaves)
