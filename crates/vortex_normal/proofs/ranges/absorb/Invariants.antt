use Rattle.std.proofs.Common.{◌≡◌, ◌∷◌, [], IsTrue, length, map}
use Rattle.std.specs.Vec.Iter.{into_iter_items, into_iter_len}
use Rattle.vortex_expr.specs.Trees.Connectives.{is_and}
use Rattle.vortex_normal.specs.Intervals.{combined, interval_of, set_of, share}
use Rattle.vortex_normal.specs.Separate.{is_separate}
use Rattle.vortex_normal.proofs.ranges.absorb.Given as goal

-- the set so far, with the intervals to come, is the whole; both are separate
abbrev pub invariant-loop-interval : goal.invariant-loop-interval
invariant-loop-interval l = record {
  whole : combined (is_and l.connective) (set_of l.set ∷ share (is_and l.connective) (map interval_of (into_iter_items l.interval-iterator)) ∷ []) ≡ combined (is_and l.connective) (set_of l.fn.set ∷ set_of l.fn.few ∷ []);
  separate : IsTrue (is_separate (set_of l.set));
  to_come : IsTrue (is_separate (map interval_of (into_iter_items l.interval-iterator)));
  counted : into_iter_len l.interval-iterator ≡ length (into_iter_items l.interval-iterator);
}
