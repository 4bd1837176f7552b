use Rattle.std.proofs.Common.{◌≡◌, ℕ, List, Ok, Some, map, vec_capacity, vec_len}
use Rattle.std.specs.Prelude.{option_map}
use Rattle.vortex_base.specs.Data.PrimitiveArray.{optionals}
use Rattle.vortex_capi.specs.MapCells.{told_cells}
use Rattle.vortex_capi.proofs.numbers.told_each.Given as goal

abbrev pub invariant-loop-place : goal.invariant-loop-place
invariant-loop-place g l = record {
  told : (rows : List ℕ) → told_cells l.aggregate (Some l.source) rows l.from l.place ≡ Ok (map (option_map g.N.Native.scalar) (optionals l.numbers.items l.validity.items));
  len : vec_len l.numbers ≡ l.place;
  room : vec_capacity l.numbers ≡ l.count;
  validity_len : vec_len l.validity ≡ l.place;
  validity_room : vec_capacity l.validity ≡ l.count;
}
