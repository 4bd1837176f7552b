use Rattle.std.proofs.Common.{Some}
use Rattle.vortex_base.specs.declared.dtype.DType.TheVariants as types
use Rattle.vortex_base.specs.declared.types.Nullability.{Nullability}
use Rattle.vortex_capi.specs.Values.{cell}
use Rattle.vortex_capi.specs.Extents.{HasRead, scalar_of}
use Rattle.vortex_capi.proofs.values.Values.range.Given as goal

abbrev pub invariant-loop-row : goal.invariant-loop-row
invariant-loop-row g l = (n : Nullability) →
    let t = types.Primitive g.N.Number.PTYPE n in
    HasRead (scalar_of g.N.Number.pvalue) t (cell t l.self.values.now l.self.start l.self.ends.now l.self.nulls.now) l.row 0 (Some l.range)
