use Rattle.std.proofs.Common.{◌∙◌, All, IsTrue, take, get_or, ap, subst, sym}
use Rattle.std.specs.Prelude.{⊤}
use Rattle.std.proofs.lemmas.List.{take_all, take_more}
use Rattle.std.proofs.lemmas.Option.{slice_get-get_or}
use Rattle.std.proofs.lemmas.Result.{MatchResult-from_err}
use Rattle.vortex_stats.specs.declared.stat.Stat.TheVariants.{IsConstant}
use Rattle.vortex_stats.specs.Copies.{holds_long}
use Rattle.vortex_stats.specs.Measuring.Measured.{measured, measuring_copies}
use Rattle.vortex_stats.specs.Measuring.Told.{with_told}
use Rattle.vortex_stats.specs.Precision.{is_exact}
use Rattle.vortex_stats.specs.Sets.Claims.{IsTrueOf}
use Rattle.vortex_stats.proofs.Measuring.MeasuredSets.{measured-push, measured_is_exact}
use Rattle.vortex_stats.proofs.Measuring.MeasuredTruth.{long_is_of_long, measured_is_true, wanted_copies}
use Rattle.vortex_stats.proofs.stats_set.StatsSet.of_column.Goals as goal

pub returns-in_err-tell-clause-copies : goal.returns-in_err-tell-clause-copies
returns-in_err-tell-clause-copies c =
    let column = c.args.column.now in
    let wanted = c.args.wanted.now in
    let i = c.loop-stat.stat-index in
    let stat = get_or wanted i IsConstant in
    MatchResult-from_err c.from_residual.result (λ _. ⊤) (λ _. IsTrue (measuring_copies wanted column)) c.from_residual.ensures.0
    (λ _. wanted_copies column wanted i stat (slice_get-get_or wanted i IsConstant c.loop-stat-test.true) c.in_err-tell.ensures.copies)

pub returns-in_err-tell-clause-memory : goal.returns-in_err-tell-clause-memory
returns-in_err-tell-clause-memory c =
    let column = c.args.column.now in
    let stat = get_or c.args.wanted.now c.loop-stat.stat-index IsConstant in
    MatchResult-from_err c.from_residual.result (λ _. ⊤) (λ _. IsTrue (holds_long column.dtype)) c.from_residual.ensures.0
    (λ _. long_is_of_long column c.measures_of-measures.ensures.is_column stat c.in_err-tell.ensures.copies)

pub loop-stat-preserved : goal.loop-stat-preserved
loop-stat-preserved c =
    let column = c.args.column.now in
    let wanted = c.args.wanted.now in
    let i = c.loop-stat.stat-index in
    let stat = get_or wanted i IsConstant in
    c.in_ok-tell.ensures.told ∙ ap (with_told column stat) c.loop-stat.invariant ∙ sym (measured-push column (take i wanted) stat)
    ∙ ap (λ ss. measured ss column) (sym (take_more wanted i IsConstant c.loop-stat-test.true))

pub returns-clause-true_of : goal.returns-clause-true_of
returns-clause-true_of c =
    let column = c.args.column.now in
    let wanted = c.args.wanted.now in
    let all = c.loop-stat.invariant ∙ ap (λ ss. measured ss column) (take_all c.loop-stat.stat-index wanted c.loop-stat-test.false) in
    subst (λ es. IsTrueOf es column) (sym all) (measured_is_true wanted column c.measures_of-measures.ensures.is_column)

pub returns-clause-exact : goal.returns-clause-exact
returns-clause-exact c =
    let column = c.args.column.now in
    let wanted = c.args.wanted.now in
    let all = c.loop-stat.invariant ∙ ap (λ ss. measured ss column) (take_all c.loop-stat.stat-index wanted c.loop-stat-test.false) in
    subst (λ es. All (λ e. IsTrue (is_exact e.1)) es) (sym all) (measured_is_exact column wanted)
