use Rattle.std.proofs.Common.{◌<◌, ◌∙◌, ◌++◌, ◌∷◌, [], ap, ap₂, sym, append_assoc, arith, length}
use Rattle.vortex_base.proofs.Data.CellLemmas.{taken_more}
use Rattle.vortex_base.specs.Data.ArrayData.{cell_values}
use Rattle.vortex_base.specs.Data.Columns.{value_at}
use Rattle.std.specs.Prelude.{slice_get, take}
use Rattle.vortex_base.proofs.array_data.ArrayData.push_each.Goals as goal

pub loop-i-preserved : goal.loop-i-preserved
loop-i-preserved c =
    let old = cell_values c.args.self.now in
    let vs = cell_values c.args.others.now in
    let within : c.loop-i.i < length vs = omega (arith, c.loop-i-test.true, c.len-i-end.ensures) in
    c.in_default.ensures.pushed ∙ ap₂ (λ xs x. xs ++ x ∷ []) c.loop-i.invariant c.value_at.ensures
    ∙ append_assoc old (take c.loop-i.i vs) (value_at (slice_get vs c.loop-i.i) ∷ []) ∙ ap (λ xs. old ++ xs) (sym (taken_more vs c.loop-i.i within))
