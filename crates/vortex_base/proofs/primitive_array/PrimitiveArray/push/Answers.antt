use Rattle.std.proofs.Common.{◌++◌, ◌∷◌, [], true, false, sym, ap, ap₂, ◌∙◌}
use Rattle.vortex_base.specs.Data.PrimitiveArray.{optionals}
use Rattle.vortex_base.proofs.Data.NativeLemmas.{optionals-append}
use Rattle.vortex_base.proofs.primitive_array.PrimitiveArray.push.Goals as goal

pub returns-in-Some-clause-pushed : goal.returns-in-Some-clause-pushed
returns-in-Some-clause-pushed g c =
    let inside = c.self.inside in
    ap₂ optionals (c.push_reserved.ensures.items ∙ ap (λ xs. xs ++ c.in-Some.value ∷ []) c.in_ok-have_room.ensures.values) (c.push_reserved-in-Some.ensures.items ∙ ap (λ xs. xs ++ true ∷ []) c.in_ok-have_room.ensures.validity)
    ∙ optionals-append inside.values.items (c.in-Some.value ∷ []) inside.validity.items (true ∷ []) c.self.invariant
    ∙ ap₂ (λ xs x. xs ++ x ∷ []) c.self.view_is (sym c.in-Some.is)

pub returns-in-None-clause-pushed : goal.returns-in-None-clause-pushed
returns-in-None-clause-pushed g c =
    let inside = c.self.inside in
    ap₂ optionals (c.push_reserved-in-None.ensures.items ∙ ap (λ xs. xs ++ c.default.result ∷ []) c.in_ok-have_room.ensures.values) (c.push_reserved-in-None-2.ensures.items ∙ ap (λ xs. xs ++ false ∷ []) c.in_ok-have_room.ensures.validity)
    ∙ optionals-append inside.values.items (c.default.result ∷ []) inside.validity.items (false ∷ []) c.self.invariant
    ∙ ap₂ (λ xs x. xs ++ x ∷ []) c.self.view_is (sym c.in-None.is)
