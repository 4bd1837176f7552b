use Rattle.std.proofs.Common.{◌<◌, Some, length, get_or, sym, ap, ◌∙◌, arith, slice_get}
use Rattle.vortex_base.specs.Data.PrimitiveArray.{native_at, optional}
use Rattle.vortex_base.proofs.Data.NativeLemmas.{optionals-absent, optionals-at, optionals-past}
use Rattle.vortex_base.proofs.primitive_array.PrimitiveArray.get.Goals.{else-i-len-via-then-i-len+else-index, else-i-len-via-else-i-len}
use Rattle.vortex_base.proofs.primitive_array.PrimitiveArray.get.Goals as goal

pub returns-then-index : goal.returns-then-index
returns-then-index g c =
    let inside = c.self.inside in
    let low : c.args.i < length inside.validity.items = omega (arith, c.if-i-len.true, c.len.ensures, inside.validity.ok) in
    sym (ap (λ l. native_at (slice_get l c.args.i)) (sym c.self.view_is)
    ∙ optionals-at inside.values.items inside.validity.items c.args.i c.index-then-index.result.now c.index.result.now c.self.invariant low
    ∙ ap (λ b. optional b (get_or inside.values.items c.args.i c.index-then-index.result.now)) (sym c.index.ensures ∙ c.if-index.true)
    ∙ ap Some (sym c.index-then-index.ensures))

pub returns-else-i-len : goal.returns-else-i-len
returns-else-i-len g c =
    let inside = c.self.inside in
    sym (ap (λ l. native_at (slice_get l c.args.i)) (sym c.self.view_is)
    ∙ elim c.else-i-len.branch [
      | else-i-len-via-then-i-len+else-index w ↦
          let low : c.args.i < length inside.validity.items = omega (arith, w.if-i-len.true, c.len.ensures, inside.validity.ok) in
          optionals-absent inside.values.items inside.validity.items c.args.i w.index.result.now c.self.invariant low (sym w.index.ensures ∙ w.if-index.false)
      | else-i-len-via-else-i-len w ↦ optionals-past inside.values.items inside.validity.items c.args.i (omega (arith, w.if-i-len.false, c.len.ensures, inside.validity.ok))
    ])
