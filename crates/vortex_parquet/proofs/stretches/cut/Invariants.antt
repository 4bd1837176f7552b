use Rattle.std.proofs.Common.{◌≤◌, ◌-◌, map}
use Rattle.vortex_parquet.specs.Stats.{group_view}
use Rattle.vortex_parquet.specs.Stretches.{AreStretches, paged_view}
use Rattle.vortex_parquet.proofs.Cuts.{AreAt}
use Rattle.vortex_parquet.proofs.stretches.cut.Given as goal

abbrev pub invariant-loop-from : goal.invariant-loop-from
invariant-loop-from l = record {
  within : l.from ≤ l.rows;
  at : AreAt l.from l.rows (map paged_view l.fn.columns) (map paged_view l.columns);
  so_far : AreStretches (map paged_view l.fn.columns) l.rows 0 l.from (map group_view l.stretches.items);
}

abbrev pub decreases-loop-from : goal.decreases-loop-from
decreases-loop-from l = l.rows - l.from
