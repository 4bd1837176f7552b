use Rattle.std.proofs.Common.{◌≡◌, ◌∷◌, IsTrue, length, map}
use Rattle.std.specs.Vec.Iter.{into_iter_items, into_iter_len}
use Rattle.vortex_expr.specs.Trees.Connectives.{is_and}
use Rattle.vortex_normal.specs.Intervals.{combined, set_of}
use Rattle.vortex_normal.specs.Separate.{are_separate, is_separate}
use Rattle.vortex_normal.proofs.ranges.spliced.Given as goal

-- what the sets so far come to, with those to come, is the whole; all are separate
abbrev pub invariant-loop-set : goal.invariant-loop-set
invariant-loop-set l = record {
  whole : combined (is_and l.connective) (set_of l.all ∷ map set_of (into_iter_items l.set-iterator)) ≡ combined (is_and l.connective) (map set_of l.fn.sets.items);
  separate : IsTrue (is_separate (set_of l.all));
  to_come : IsTrue (are_separate (map set_of (into_iter_items l.set-iterator)));
  counted : into_iter_len l.set-iterator ≡ length (into_iter_items l.set-iterator);
}
