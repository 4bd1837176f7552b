use Rattle.std.proofs.Common.{inl, inr, refl, subst, sym, ap, ◌∙◌, ◌*◌, ◌+◌}
use Rattle.std.specs.Prelude.{slice_range}
use Rattle.vortex_base.specs.declared.dtype.DType.{DType}
use Rattle.vortex_capi.proofs.ArrowLemmas.{AreBytesOf, read_from}
use Rattle.vortex_capi.proofs.arrow.Unpacked.values.Goals as goal

pub returns-in-Null : goal.returns-in-Null
returns-in-Null c =
    let a = c.args.column.now in
    let u = c.args.self.now in
    let bytes = c.deref.result.now in
    let Are : DType → Type 0 = λ t. AreBytesOf t a u bytes in
    read_from a u c.with.result bytes c.with.ensures c.args.dtype c.requires
    (elim c.in-Null.is [
      | inl null ↦ subst Are (sym null) c.deref.ensures.value
      | inr truth ↦ subst Are (sym truth.1) c.deref.ensures.value
    ])

pub returns-in-Primitive : goal.returns-in-Primitive
returns-in-Primitive c =
    let a = c.args.column.now in
    let u = c.args.self.now in
    let bytes = c.numbers.result.now in
    let Are : DType → Type 0 = λ t. AreBytesOf t a u bytes in
    let some = c.numbers.ensures.some in
    read_from a u c.with-in-Primitive.result bytes c.with-in-Primitive.ensures c.args.dtype c.requires
    (subst Are (sym c.in-Primitive.is)
    (c.numbers.ensures.none, λ present. some present ∙ ap (λ w. slice_range a.values.now (a.offset * w) (a.offset * w + a.rows * w)) c.number_width.ensures))

pub returns-in-Utf8 : goal.returns-in-Utf8
returns-in-Utf8 c =
    let a = c.args.column.now in
    let u = c.args.self.now in
    let bytes = a.values.now in
    let Are : DType → Type 0 = λ t. AreBytesOf t a u bytes in
    read_from a u c.with-in-Utf8.result bytes c.with-in-Utf8.ensures c.args.dtype c.requires
    (elim c.in-Utf8.is [
      | inl text ↦ subst Are (sym text.1) refl
      | inr other ↦ elim other [
        | inl binary ↦ subst Are (sym binary.1) refl
        | inr state ↦ subst Are (sym state.2) refl
      ]
    ])
