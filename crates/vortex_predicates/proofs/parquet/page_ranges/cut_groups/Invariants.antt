use Rattle.std.proofs.Common.{map}
use Rattle.vortex_parquet.specs.Stats.{group_view}
use Rattle.vortex_predicates.proofs.Footers.RangeLoops.{AreCutTo}
use Rattle.vortex_predicates.proofs.parquet.page_ranges.cut_groups.Given as goal

abbrev pub invariant-loop-place : goal.invariant-loop-place
invariant-loop-place l = AreCutTo l.groups l.place l.ranges.items (map group_view l.stretches.items)
