use Rattle.std.proofs.Common.{◌≡◌, ◌++◌, drop, map}
use Rattle.vortex_parquet.specs.Stretches.{head_set as head_set_in, paged_view}
use Rattle.vortex_parquet.proofs.stretches.head_sets.Given as goal

abbrev pub invariant-loop-place : goal.invariant-loop-place
invariant-loop-place l = l.sets.items ++ map (head_set_in l.rows) (drop l.place (map paged_view l.columns)) ≡ map (head_set_in l.rows) (map paged_view l.columns)
