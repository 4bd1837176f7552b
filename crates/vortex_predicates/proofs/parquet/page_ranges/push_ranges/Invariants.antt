use Rattle.std.proofs.Common.{◌≡◌, ◌+◌, ◌++◌, map, drop}
use Rattle.vortex_parquet.specs.Stats.{group_view}
use Rattle.vortex_predicates.specs.Footers.PagedGroups.{ranges_from, rows_in}
use Rattle.vortex_predicates.proofs.parquet.page_ranges.push_ranges.Given as goal

abbrev pub invariant-loop-stretch : goal.invariant-loop-stretch
invariant-loop-stretch l = record {
  so_far : l.ranges.items ++ ranges_from l.group l.first (map group_view (drop l.stretch-index l.stretches)) ≡ l.fn.ranges.items ++ ranges_from l.group 0 (map group_view l.stretches);
  left : l.first + rows_in (map group_view (drop l.stretch-index l.stretches)) ≡ rows_in (map group_view l.stretches);
}
