use Rattle.std.proofs.Common.{◌≡◌, ◌++◌, drop, map}
use Rattle.vortex_normal.specs.Intervals.{Lowest, cut_of, interval_of, left_out}
use Rattle.vortex_normal.proofs.interval.push_left_out.Given as goal

-- what is appended, with what is left out above the cut by the intervals to come, is the whole
abbrev pub invariant-loop-interval : goal.invariant-loop-interval
invariant-loop-interval l =
    map interval_of l.out.items ++ left_out (cut_of l.low) (map interval_of (drop l.interval-index l.set))
    ≡ map interval_of l.fn.out.items ++ left_out Lowest (map interval_of l.set)
