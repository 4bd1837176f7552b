use Rattle.std.proofs.Common.{◌≡◌, ◌++◌, map, drop}
use Rattle.vortex_parquet.specs.Stretches.{paged_view as column_view}
use Rattle.vortex_predicates.specs.Footers.PagedGroups.{leaf_view}
use Rattle.vortex_predicates.proofs.parquet.page_ranges.columns_of.Given as goal

abbrev pub invariant-loop-leaf : goal.invariant-loop-leaf
invariant-loop-leaf l = map column_view l.columns.items ++ map leaf_view (drop l.leaf-index l.leaves) ≡ map leaf_view l.leaves
