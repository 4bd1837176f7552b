use Rattle.std.proofs.Common.{◌<◌, ◌∙◌, ◌++◌, ◌∷◌, [], ap₂, sym, arith, length}
use Rattle.vortex_base.proofs.Data.CellLemmas.{taken_more}
use Rattle.vortex_base.specs.Data.ArrayData.{cell_values}
use Rattle.vortex_base.proofs.array_data.ArrayData.widened.Goals as goal

pub loop-i-preserved : goal.loop-i-preserved
loop-i-preserved c =
    let vs = cell_values c.args.self.now in
    let within : c.loop-i.i < length vs = omega (arith, c.loop-i-test.true, c.len-i-end.ensures) in
    c.in_ok-push.ensures.items ∙ ap₂ (λ xs x. xs ++ x ∷ []) c.loop-i.invariant (c.in_ok-copied.ensures ∙ c.value_at.ensures) ∙ sym (taken_more vs c.loop-i.i within)
