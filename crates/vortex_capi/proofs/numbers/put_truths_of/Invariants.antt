use Rattle.std.proofs.Common.{◌≡◌, Ok, Some, take}
use Rattle.vortex_base.specs.declared.scalar_value.ScalarValue.TheVariants as value
use Rattle.vortex_capi.specs.MapCells.{told_cells}
use Rattle.vortex_capi.proofs.NumberLemmas.{cells_of}
use Rattle.vortex_capi.proofs.numbers.put_truths_of.Given as goal

-- the truths before this one are put
abbrev pub invariant-loop-place : goal.invariant-loop-place
invariant-loop-place g l = told_cells l.aggregate (Some l.source) l.rows l.from l.place ≡ Ok (cells_of value.Bool (take l.place l.truths))
