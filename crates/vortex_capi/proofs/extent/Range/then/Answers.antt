use Rattle.vortex_capi.specs.Extents.{scalar_of}
use Rattle.vortex_capi.proofs.ExtentLemmas.{longer_range}
use Rattle.vortex_capi.proofs.extent.Range.then.Goals as goal

pub returns : goal.returns
returns g c = λ xs range.
    rw (c.min.ensures, c.max.ensures)
    (longer_range (scalar_of g.N.Number.pvalue) g.N.Ord.cmp g.met.N.Number.ordered c.args.self xs c.args.number range)
