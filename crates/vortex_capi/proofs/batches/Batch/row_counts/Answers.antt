use Rattle.std.proofs.Common.{◌≡◌, ◌+◌, ◌-◌, ap, arith, drop, sym, take, ◌∙◌}
use Rattle.vortex_capi.proofs.CellLemmas.{rows_are}
use Rattle.vortex_capi.proofs.batches.Batch.row_counts.Goals as goal

pub returns-in-Ok : goal.returns-in-Ok
returns-in-Ok c = λ zones found.
    let b = c.args.self.now in
    let count : b.from + b.count - b.from ≡ b.count = omega arith in
    c.in-Ok.ensures.items ∙ ap (λ k. take k (drop b.from b.rows.now)) count ∙ sym (rows_are b.scope.now b.sources.now b.rows.now b.from b.count zones found c.requires.within)
