use Rattle.std.proofs.Common.{subst}
use Rattle.vortex_base.specs.Data.ArrayData.{value_of}
use Rattle.vortex_capi.specs.Extents.{IsOptionalRangeOf}
use Rattle.vortex_capi.proofs.ExtentLemmas.{empty_extent, full_extent}
use Rattle.vortex_capi.proofs.extent.Extent.new.Goals as goal

pub returns-in-None : goal.returns-in-None
returns-in-None c = λ column counted range.
    empty_extent column c.args.nulls counted (subst (λ r. IsOptionalRangeOf value_of r column.values) c.in-None.is range)

pub returns-in-Some : goal.returns-in-Some
returns-in-Some c = λ column counted range.
    full_extent column c.args.nulls c.in-Some.range counted (subst (λ r. IsOptionalRangeOf value_of r column.values) c.in-Some.is range)
