use Rattle.std.proofs.Common.{ap, ap₂, ◌∙◌, take}
use Rattle.vortex_base.specs.Data.PrimitiveArray.{optionals}
use Rattle.vortex_base.proofs.Data.NativeLemmas.{optionals-take}
use Rattle.vortex_base.proofs.primitive_array.PrimitiveArray.truncate.Goals as goal

pub returns : goal.returns
returns g c =
    ap₂ optionals c.truncate.ensures.items c.truncate-2.ensures.items ∙ optionals-take c.args.len c.self.inside.values.items c.self.inside.validity.items ∙ ap (take c.args.len) c.self.view_is
