use Rattle.std.proofs.Common.{[], None, subst, ◌≡◌}
use Rattle.vortex_stats.specs.Measuring.Tallies.{IsOptionalKeyOf}
use Rattle.vortex_stats.proofs.Measuring.Runs.{null_counted, value_counted}
use Rattle.vortex_stats.proofs.measure.tally.Tally.push.Goals as goal

pub returns-in-None : goal.returns-in-None
returns-in-None g c = λ t xs x l key tally.
    let code = g.K.Key.code in
    let none : x ≡ None = subst (λ k. IsOptionalKeyOf code t k x) c.in-None.is key in
    rw none (null_counted code t c.args.self.now xs tally)

pub returns-in-Some : goal.returns-in-Some
returns-in-Some g c = λ t xs x l key tally.
    let code = g.K.Key.code in
    let some = subst (λ k. IsOptionalKeyOf code t k x) c.in-Some.is key in
    rw some.1 (value_counted code t c.args.self.now c.with_value.result xs some.0 tally (c.with_value.ensures t xs some.0 l some.2 tally.run))
