use Rattle.std.proofs.Common.{subst}
use Rattle.vortex_capi.specs.Extents.{IsOptionalRangeOf, scalar_of}
use Rattle.vortex_capi.proofs.extent.with_number.Goals as goal

pub returns-in-Some : goal.returns-in-Some
returns-in-Some g c = λ xs range.
    c.then.ensures xs (subst (λ r. IsOptionalRangeOf (scalar_of g.N.Number.pvalue) r xs) c.in-Some.is range)
