use Rattle.vortex_base.proofs.Data.TextLemmas.{texts-take}
use Rattle.vortex_base.proofs.utf8_array.Utf8Array.truncate.Goals as goal

pub invariant_of-self : goal.invariant_of-self
invariant_of-self c = rw c.truncate.ensures (texts-take c.args.len c.self.inside.blobs c.self.invariant)
