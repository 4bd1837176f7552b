use Rattle.std.proofs.Common.{◌∙◌, ap}
use Rattle.std.specs.Ordering.{is_lt}
use Rattle.vortex_stats.proofs.Measuring.Runs.{keys_compare, longer_run}
use Rattle.vortex_stats.proofs.measure.tally.Run.then.Goals as goal

pub returns : goal.returns
returns g c = λ t xs v l key run.
    let a = c.args in
    let r = a.self in
    let code = g.K.Key.code in
    let compare = keys_compare code t g.K.Ord.cmp g.met.K.Key.ordered in
    rw (c.pick.ensures, c.pick-2.ensures, c.pick-3.ensures, c.pick-4.ensures, c.is_gt.ensures, c.is_lt.ensures)
    (longer_run code t r xs a.key v a.at run l key _ _ _
    (c.is_lt-is_least.ensures ∙ ap is_lt (c.cmp.ensures ∙ compare a.key r.least v run.least key run.least_key))
    (c.is_lt-is_greatest.ensures ∙ ap is_lt (c.cmp-2.ensures ∙ compare r.greatest a.key run.greatest v run.greatest_key key))
    (c.cmp-order.ensures ∙ compare r.last a.key run.last v run.last_key key))
