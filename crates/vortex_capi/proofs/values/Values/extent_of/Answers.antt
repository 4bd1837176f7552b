use Rattle.vortex_base.specs.declared.dtype.DType.TheVariants as types
use Rattle.vortex_capi.specs.Extents.{scalar_of}
use Rattle.vortex_capi.proofs.ExtentLemmas.{column_read}
use Rattle.vortex_capi.proofs.values.Values.extent_of.Goals as goal

pub returns-then-has_numbers : goal.returns-then-has_numbers
returns-then-has_numbers g c =
    column_read (scalar_of g.N.Number.pvalue) (types.Primitive g.N.Number.PTYPE c.args.nullability) c.args.self.now 0 c.range.result c.new.result (c.range.ensures c.args.nullability)
    (λ column counted range. c.new.ensures column counted (c.lent.ensures column.values range))

pub returns : goal.returns
returns g c =
    column_read (scalar_of g.N.Number.pvalue) (types.Primitive g.N.Number.PTYPE c.args.nullability) c.args.self.now c.in_ok-nulls.nulls c.in_ok-nulls.range c.new-2.result c.in_ok-nulls.ensures
    (λ column counted range. c.new-2.ensures column counted (c.lent-2.ensures column.values range))
