use Rattle.std.proofs.Common.{◌<◌, arith, length}
use Rattle.std.proofs.lemmas.Bool.{and_parts}
use Rattle.vortex_normal.proofs.Fits.{each_fits}
use Rattle.vortex_normal.proofs.range_predicate.interval_tests.Goals as goal

pub between_cuts-requires-clause-low : goal.between_cuts-requires-clause-low
between_cuts-requires-clause-low c =
    let set = c.args.set.now in
    let i = c.loop-interval.interval-index in
    let inside : i < length set = omega arith in
    (and_parts _ _ (each_fits c.args.dtype set i c.interval-item.result c.interval-item.result inside c.interval-item.is c.requires)).0

pub between_cuts-requires-clause-high : goal.between_cuts-requires-clause-high
between_cuts-requires-clause-high c =
    let set = c.args.set.now in
    let i = c.loop-interval.interval-index in
    let inside : i < length set = omega arith in
    (and_parts _ _ (each_fits c.args.dtype set i c.interval-item.result c.interval-item.result inside c.interval-item.is c.requires)).1
