use Rattle.std.proofs.Common.{ap, arith, length}
use Rattle.vortex_base.proofs.Data.BlobLemmas.{blobs-length}
use Rattle.vortex_base.proofs.var_bin_array.VarBinArray.len.Goals as goal

pub returns : goal.returns
returns c =
    let inside = c.self.inside in
    omega (arith, ap length c.self.view_is, blobs-length 0 inside.ends inside.heap.items inside.validity.items c.self.invariant.long, c.self.invariant.long, inside.validity.ok)
