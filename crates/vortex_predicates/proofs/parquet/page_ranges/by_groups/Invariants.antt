use Rattle.std.proofs.Common.{◌≡◌, ◌++◌, drop}
use Rattle.vortex_predicates.specs.Footers.PagePruning.{by_groups}
use Rattle.vortex_predicates.proofs.parquet.page_ranges.by_groups.Given as goal

abbrev pub invariant-loop-place : goal.invariant-loop-place
invariant-loop-place l = l.verdicts.items ++ by_groups l.groups (drop l.place l.ranges) (drop l.place l.own) ≡ by_groups l.groups l.ranges l.own
