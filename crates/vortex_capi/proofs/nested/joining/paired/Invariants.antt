use Rattle.std.proofs.Common.{◌≡◌, ◌++◌, length}
use Rattle.std.specs.Vec.Iter.{into_iter_items, into_iter_len}
use Rattle.vortex_expr.specs.Trees.Connectives.{is_and}
use Rattle.vortex_capi.specs.Nesting.Halves as spec
use Rattle.vortex_capi.proofs.nested.joining.paired.Given as goal

-- the pairs, with those of the items to come, are the whole
abbrev pub invariant-pairs : goal.invariant-pairs
invariant-pairs l = record {
  whole : l.pairs.items ++ spec.paired (is_and l.connective) (into_iter_items l.rest) ≡ spec.paired (is_and l.connective) l.fn.items.items;
  counted : into_iter_len l.rest ≡ length (into_iter_items l.rest);
}

abbrev pub decreases-pairs : goal.decreases-pairs
decreases-pairs l = into_iter_len l.rest
