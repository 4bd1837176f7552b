use Rattle.std.proofs.Common.{◌∙◌, ◌&&◌, ◌==◌, ap, subst}
use Rattle.std.specs.Ordering.{is_eq}
use Rattle.vortex_stats.specs.Measuring.Tallies.{IsOptionalRunOf}
use Rattle.vortex_stats.proofs.Measuring.MeasureLemmas.{measures_of_nulls, measures_of_run}
use Rattle.vortex_stats.proofs.Measuring.Runs.{keys_compare}
use Rattle.vortex_stats.proofs.measure.tally.Tally.measures.Goals as goal

pub returns-in-None : goal.returns-in-None
returns-in-None g c = λ t xs tally summed.
    let code = g.K.Key.code in
    measures_of_nulls code t c.args.sum xs summed c.args.self.nulls tally.nulls (subst (λ r. IsOptionalRunOf code t r xs) c.in-None.is tally.run)

pub returns-in-Some : goal.returns-in-Some
returns-in-Some g c = λ t xs tally summed.
    let code = g.K.Key.code in
    let r = c.in-Some.all in
    let q = subst (λ o. IsOptionalRunOf code t o xs) c.in-Some.is tally.run in
    let compared = keys_compare code t g.K.Ord.cmp g.met.K.Key.ordered r.least r.greatest q.least q.greatest q.least_key q.greatest_key in
    measures_of_run code t c.args.sum xs summed c.args.self.nulls r _ q tally.nulls
    (ap (λ b. (c.args.self.nulls == 0) && b) (c.is_eq.ensures ∙ ap is_eq (c.cmp.ensures ∙ compared)))
