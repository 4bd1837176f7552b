use Rattle.std.proofs.Common.{◌≡◌, map, drop}
use Rattle.vortex_parquet.specs.GroupPages.{tail_view}
use Rattle.vortex_parquet.specs.Records.{row_group_view}
use Rattle.vortex_parquet.specs.Stats.{all_of}
use Rattle.vortex_parquet.proofs.Loops.{with_all}
use Rattle.vortex_predicates.specs.Footers.PagedGroups.{leaf_column as column_in, leaf_view}
use Rattle.vortex_predicates.proofs.parquet.paged.leaf_columns.Given as goal

abbrev pub invariant-loop-leaf : goal.invariant-loop-leaf
invariant-loop-leaf l = let one = column_in (tail_view l.tail) l.orders (row_group_view l.group) in with_all (map leaf_view l.columns.items) (all_of one (drop l.leaf-index l.leaves)) ≡ all_of one l.leaves
