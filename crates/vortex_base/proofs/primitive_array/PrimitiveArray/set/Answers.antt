use Rattle.std.proofs.Common.{◌∙◌, true, sym, ap, ap₂, length, slice_set, arith}
use Rattle.vortex_base.proofs.Data.NativeLemmas.{optionals-forget, optionals-length, optionals-set}
use Rattle.vortex_base.proofs.primitive_array.PrimitiveArray.set.Goals as goal

pub index_mut-requires : goal.index_mut-requires
index_mut-requires g c =
    let inside = c.self.inside in
    omega (arith, c.requires, ap length c.self.view_is, optionals-length inside.values.items inside.validity.items c.self.invariant, inside.values.ok)

pub index_mut-requires-in-Some : goal.index_mut-requires-in-Some
index_mut-requires-in-Some g c =
    let inside = c.self.inside in
    omega (arith, c.requires, ap length c.self.view_is, optionals-length inside.values.items inside.validity.items c.self.invariant, c.self.invariant, inside.validity.ok)

pub index_mut-requires-in-None : goal.index_mut-requires-in-None
index_mut-requires-in-None g c =
    let inside = c.self.inside in
    omega (arith, c.requires, ap length c.self.view_is, optionals-length inside.values.items inside.validity.items c.self.invariant, c.self.invariant, inside.validity.ok)

pub returns-in-Some : goal.returns-in-Some
returns-in-Some g c =
    let inside = c.self.inside in
    optionals-set inside.values.items inside.validity.items c.args.place c.in-Some.value true ∙ ap₂ (λ xs x. slice_set xs c.args.place x) c.self.view_is (sym c.in-Some.is)

pub returns-in-None : goal.returns-in-None
returns-in-None g c =
    let inside = c.self.inside in
    optionals-forget inside.values.items inside.validity.items c.args.place ∙ ap₂ (λ xs x. slice_set xs c.args.place x) c.self.view_is (sym c.in-None.is)
