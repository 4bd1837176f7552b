use Rattle.std.proofs.Common.{◌≡◌, ◌++◌, ap, ap₂, ◌∙◌, arith}
use Rattle.vortex_base.specs.Data.PrimitiveArray.{optionals}
use Rattle.vortex_base.proofs.Data.AppendLemmas.{appended_in_room}
use Rattle.vortex_base.proofs.Data.NativeLemmas.{optionals-append}
use Rattle.vortex_base.proofs.primitive_array.PrimitiveArray.extend_from.Goals as goal

pub returns-clause-extended : goal.returns-clause-extended
returns-clause-extended g c =
    let mine = c.self.inside in
    let more = c.others.inside in
    let values : c.extend_from_slice.new.self.items ≡ mine.values.items ++ more.values.items =
    c.in_ok-extend_from_slice.ensures.items ∙ ap (λ xs. mine.values.items ++ xs) c.deref.ensures.value in
    let validity : c.extend_from_slice-2.new.self.items ≡ mine.validity.items ++ more.validity.items =
    appended_in_room c.extend_from_slice-2.result c.reserve.new.self.items c.deref-2.result.now _ c.extend_from_slice-2.ensures.items (c.extend_from_slice-2.ensures.succeeds (omega (arith, c.in_ok-reserve.ensures.ok, c.len.ensures, c.deref-2.ensures.len)))
    ∙ ap₂ (λ xs ys. xs ++ ys) c.in_ok-reserve.ensures.items c.deref-2.ensures.value in
    ap₂ optionals values validity ∙ optionals-append mine.values.items more.values.items mine.validity.items more.validity.items c.self.invariant
    ∙ ap₂ (λ xs ys. xs ++ ys) c.self.view_is c.others.view_is
