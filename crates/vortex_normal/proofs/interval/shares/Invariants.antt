use Rattle.std.proofs.Common.{◌≡◌, ◌++◌, length, map}
use Rattle.std.specs.List.{flat_map}
use Rattle.std.specs.Vec.Iter.{into_iter_items, into_iter_len}
use Rattle.vortex_expr.specs.Trees.Connectives.{is_and}
use Rattle.vortex_normal.specs.Intervals.{interval_of, set_of, share}
use Rattle.vortex_normal.proofs.interval.shares.Given as goal

-- what is appended, with the shares of the sets to come, is the whole
abbrev pub invariant-loop-set : goal.invariant-loop-set
invariant-loop-set l =
    (map interval_of l.out.items ++ flat_map (share (is_and l.connective)) (map set_of (into_iter_items l.set-iterator))
    ≡ flat_map (share (is_and l.connective)) (map set_of (into_iter_items l.initial.set-iterator)))
    × (into_iter_len l.set-iterator ≡ length (into_iter_items l.set-iterator))
