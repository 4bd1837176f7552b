use Rattle.std.proofs.Common.{◌≡◌, Ok, Some, map}
use Rattle.std.specs.Prelude.{option_map}
use Rattle.vortex_base.specs.declared.scalar_value.ScalarValue.TheVariants as value
use Rattle.vortex_capi.specs.MapCells.{told_cells}
use Rattle.vortex_capi.proofs.numbers.told_truths.Given as goal

abbrev pub invariant-loop-place : goal.invariant-loop-place
invariant-loop-place g l = told_cells l.aggregate (Some l.source) l.rows l.from l.place ≡ Ok (map (option_map value.Bool) l.truths)
