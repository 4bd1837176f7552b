use Rattle.vortex_capi.proofs.ExtentLemmas.{column_made}
use Rattle.vortex_capi.proofs.measure.slots_of_values.Goals as goal

pub returns-in-Some : goal.returns-in-Some
returns-in-Some c =
    let found = c.in-Some.ensures in
    let made = column_made c.args.dtype c.args.values.now found.0 found.1 in
    rw found.1 (c.slots_of_extent.ensures found.0 found.2 made.0 made.1)
