use Rattle.vortex_capi.specs.Extents.{scalar_of}
use Rattle.vortex_capi.proofs.ExtentLemmas.{first_range}
use Rattle.vortex_capi.proofs.extent.Range.new.Goals as goal

pub returns : goal.returns
returns g c = λ xs none. first_range (scalar_of g.N.Number.pvalue) xs c.args.number none
