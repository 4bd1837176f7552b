use Rattle.std.proofs.Common.{◌≡◌, ◌++◌, ◌+◌, ◌-◌, ◌^◌, ◌≤◌}
use Rattle.std.specs.Prelude.{min}
use Rattle.vortex_prune.proofs.Scanning.SelectLemmas.{rows_below}
use Rattle.vortex_prune.specs.Scanning.RangeScans.{is_true_in}
use Rattle.vortex_prune.proofs.scan.select.select.Given as goal

-- the satisfying rows of the blocks so far were added, and their rows were counted
abbrev pub invariant-runs : goal.invariant-runs
invariant-runs l = record {
  within : l.from ≤ l.range.rows;
  selected : l.selected ≡ l.fn.selected ++ rows_below (is_true_in l.predicate l.range.chunk.now.columns l.range.first l.range.rows) l.place l.from;
  evaluated : l.evaluated ≡ min (l.fn.evaluated + l.from) (2 ^ 64 - 1);
}

abbrev pub decreases-runs : goal.decreases-runs
decreases-runs l = l.range.rows - l.from
