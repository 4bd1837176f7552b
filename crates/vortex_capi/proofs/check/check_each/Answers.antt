use Rattle.std.proofs.lemmas.Result.{err_from_is_err_and}
use Rattle.vortex_capi.specs.Checks.{TellsTruth}
use Rattle.vortex_capi.proofs.CheckLemmas.{before_next}
use Rattle.vortex_capi.proofs.check.check_each.Goals as goal

pub returns-in_err-check_at : goal.returns-in_err-check_at
returns-in_err-check_at c =
    let p = err_from_is_err_and c.from_residual.result c.from_residual.ensures.1 in
    rw (p.1, p.2)
    (λ not_memory. record { place = c.loop-entry.entry; within = c.loop-entry-test.true; before = c.loop-entry.invariant; fault = c.in_err-check_at.ensures.fault not_memory })

pub loop-entry-preserved : goal.loop-entry-preserved
loop-entry-preserved c = before_next (TellsTruth c.args.column.now c.args.zone) c.args.stats.now c.loop-entry.entry c.loop-entry.invariant c.in_ok-check_at.ensures.truth
