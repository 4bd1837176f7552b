use Rattle.std.proofs.Common.{◌≡◌, ◌++◌, length}
use Rattle.std.specs.Vec.Iter.{into_iter_items, into_iter_len}
use Rattle.vortex_expr.specs.Trees.Connectives.{is_and}
use Rattle.vortex_normal.specs.Balanced as spec
use Rattle.vortex_normal.proofs.balanced.paired.Given as goal

-- the pairs, with those of the predicates to come, are the whole
abbrev pub invariant-loop-first : goal.invariant-loop-first
invariant-loop-first l = record {
  whole : l.pairs.items ++ spec.paired (is_and l.connective) (into_iter_items l.rest) ≡ spec.paired (is_and l.connective) l.fn.tests.items;
  counted : into_iter_len l.rest ≡ length (into_iter_items l.rest);
}

abbrev pub decreases-loop-first : goal.decreases-loop-first
decreases-loop-first l = into_iter_len l.rest
