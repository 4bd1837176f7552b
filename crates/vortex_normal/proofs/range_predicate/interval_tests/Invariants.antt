use Rattle.std.proofs.Common.{◌≡◌, map, take}
use Rattle.vortex_normal.specs.Intervals.{interval_of, interval_test, place_at}
use Rattle.vortex_normal.proofs.range_predicate.interval_tests.Given as goal

abbrev pub invariant-loop-interval : goal.invariant-loop-interval
invariant-loop-interval l =
    l.tests.items ≡ map (interval_test (place_at l.place l.dtype)) (map interval_of (take l.interval-index l.set))
