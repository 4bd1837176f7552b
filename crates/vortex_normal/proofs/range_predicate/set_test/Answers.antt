use Rattle.std.proofs.Common.{◌<◌, length, arith}
use Rattle.std.proofs.lemmas.Bool.{and_parts}
use Rattle.vortex_normal.proofs.Fits.{each_fits}
use Rattle.vortex_normal.proofs.range_predicate.set_test.Goals as goal

pub between_cuts-requires-clause-high : goal.between_cuts-requires-clause-high
between_cuts-requires-clause-high c =
    let l : 0 < length c.args.set.now = omega (arith, c.in-len1.len_at_least) in
    (and_parts _ _ (each_fits c.args.dtype c.args.set.now 0 c.only-item.result c.only-item.result l c.only-item.is c.requires)).1

pub two_test-requires-clause-second : goal.two_test-requires-clause-second
two_test-requires-clause-second c =
    let l : 1 < length c.args.set.now = omega (arith, c.in-len2.len_at_least) in
    each_fits c.args.dtype c.args.set.now 1 c.second-item.result c.second-item.result l c.second-item.is c.requires
