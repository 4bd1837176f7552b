use Rattle.std.proofs.Common.{◌≡◌, drop, map}
use Rattle.vortex_parquet.specs.Stretches.{all_follow as all_follow_in, paged_view}
use Rattle.vortex_parquet.proofs.stretches.all_follow.Given as goal

abbrev pub invariant-loop-column : goal.invariant-loop-column
invariant-loop-column l = all_follow_in l.rows (drop l.column-index (map paged_view l.columns)) ≡ all_follow_in l.rows (map paged_view l.columns)
