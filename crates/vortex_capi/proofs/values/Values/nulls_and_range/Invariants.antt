use Rattle.vortex_base.specs.declared.dtype.DType.TheVariants as types
use Rattle.vortex_capi.specs.Values.{cell}
use Rattle.vortex_capi.specs.Extents.{HasRead, scalar_of}
use Rattle.vortex_capi.proofs.values.Values.nulls_and_range.Given as goal

abbrev pub invariant-loop-row : goal.invariant-loop-row
invariant-loop-row g l =
    let t = types.Primitive g.N.Number.PTYPE l.fn.nullability in
    HasRead (scalar_of g.N.Number.pvalue) t (cell t l.self.values.now l.self.start l.self.ends.now l.self.nulls.now) l.row l.nulls l.range
