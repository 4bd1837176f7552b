use Rattle.std.proofs.Common.{◌≡◌, drop, map}
use Rattle.vortex_normal.specs.Intervals.{interval_of}
use Rattle.vortex_normal.specs.Separate.{hull_of_all}
use Rattle.vortex_normal.proofs.ranges.hull_of_all.Given as goal

-- the hull so far, with the intervals to come, is the whole
abbrev pub invariant-loop-other : goal.invariant-loop-other
invariant-loop-other l =
    hull_of_all (interval_of l.hull) (map interval_of (drop l.other-index l.others))
    ≡ hull_of_all (interval_of l.fn.interval) (map interval_of l.others)
