use Rattle.std.proofs.Common.{false, ap₂, ◌∙◌}
use Rattle.vortex_base.proofs.Data.NativeLemmas.{optionals-nulls, resized}
use Rattle.vortex_base.specs.Data.PrimitiveArray.{optionals}
use Rattle.vortex_base.proofs.primitive_array.PrimitiveArray.nulls.Goals as goal

pub returns : goal.returns
returns g c =
    ap₂ optionals
    (c.in_ok-resize.ensures.items ∙ resized c.args.count _ c.default.result c.new-values.ensures.items _ c.new-values.ensures.len)
    (c.in_ok-resize-2.ensures.items ∙ resized c.args.count _ false c.new-validity.ensures.items _ c.new-validity.ensures.len)
    ∙ optionals-nulls c.args.count c.default.result
