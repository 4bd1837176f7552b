use Rattle.std.proofs.Common.{◌≡◌, Ok, map}
use Rattle.std.specs.Prelude.{option_map}
use Rattle.vortex_base.specs.declared.dtype.DType.TheVariants as types
use Rattle.vortex_capi.specs.Refusals.{all_read}
use Rattle.vortex_capi.specs.Statuses.{at_row}
use Rattle.vortex_capi.specs.Values.{cell}
use Rattle.vortex_capi.proofs.values.Values.numbers.Given as goal

abbrev pub invariant-loop-row : goal.invariant-loop-row
invariant-loop-row g l =
    let t = types.Primitive g.N.Number.PTYPE l.nullability in
    all_read at_row (cell t l.self.values.now l.self.start l.self.ends.now l.self.nulls.now) l.row ≡ Ok (map (option_map g.N.Native.scalar) l.numbers)
