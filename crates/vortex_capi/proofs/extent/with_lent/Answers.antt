use Rattle.std.proofs.Common.{refl, subst}
use Rattle.vortex_base.specs.Data.ArrayData.{value_of}
use Rattle.vortex_capi.specs.Extents.{IsOptionalRangeOf, lent_cmp}
use Rattle.vortex_capi.proofs.ExtentLemmas.{first_range, longer_range}
use Rattle.vortex_capi.proofs.extent.with_lent.Goals as goal

pub returns-in-None : goal.returns-in-None
returns-in-None c = λ xs range. first_range value_of xs c.args.value (subst (λ r. IsOptionalRangeOf value_of r xs) c.in-None.is range)

pub returns-in-Some : goal.returns-in-Some
returns-in-Some c = λ xs range.
    rw (c.lesser.ensures, c.greater.ensures)
    (longer_range value_of lent_cmp (λ a b. refl) c.in-Some.range xs c.args.value (subst (λ r. IsOptionalRangeOf value_of r xs) c.in-Some.is range))
