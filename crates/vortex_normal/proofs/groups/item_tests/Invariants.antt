use Rattle.std.proofs.Common.{◌≡◌, ◌++◌, IsTrue, length, map}
use Rattle.std.specs.Vec.Iter.{into_iter_items, into_iter_len}
use Rattle.vortex_expr.specs.Trees.Connectives.{is_and}
use Rattle.vortex_normal.specs.Groups.{item_of, item_test, items_fit}
use Rattle.vortex_normal.specs.Separate.{are_of_separate}
use Rattle.vortex_normal.proofs.groups.item_tests.Given as goal

-- the tests, with those of the items to come, are the whole; these fit, and their sets are separate
abbrev pub invariant-loop-item : goal.invariant-loop-item
invariant-loop-item l = record {
  whole : l.tests.items ++ map (item_test (is_and l.connective)) (map item_of (into_iter_items l.item-iterator)) ≡ map (item_test (is_and l.connective)) (map item_of (into_iter_items l.initial.item-iterator));
  fit : IsTrue (items_fit (map item_of (into_iter_items l.item-iterator)));
  separate : IsTrue (are_of_separate (map item_of (into_iter_items l.item-iterator)));
  counted : into_iter_len l.item-iterator ≡ length (into_iter_items l.item-iterator);
}
