use Rattle.std.proofs.Common.{subst}
use Rattle.vortex_capi.specs.Extents.{IsOptionalRangeOf, scalar_of}
use Rattle.vortex_capi.proofs.ExtentLemmas.{number_range}
use Rattle.vortex_capi.proofs.extent.lent.Goals as goal

pub returns-in-None : goal.returns-in-None
returns-in-None g c = λ xs range. subst (λ r. IsOptionalRangeOf (scalar_of g.N.Number.pvalue) r xs) c.in-None.is range

pub returns-in-Some : goal.returns-in-Some
returns-in-Some g c = λ xs range.
    rw (c.value.ensures, c.value-in-Some.ensures)
    (number_range g.N.Number.pvalue c.in-Some.range xs (subst (λ r. IsOptionalRangeOf (scalar_of g.N.Number.pvalue) r xs) c.in-Some.is range))
