use Rattle.std.proofs.Common.{ap, arith, length}
use Rattle.vortex_base.proofs.Data.NativeLemmas.{optionals-length}
use Rattle.vortex_base.proofs.primitive_array.PrimitiveArray.len.Goals as goal

pub returns : goal.returns
returns g c =
    let inside = c.self.inside in
    omega (arith, ap length c.self.view_is, optionals-length inside.values.items inside.validity.items c.self.invariant, inside.values.ok)
