use Rattle.std.proofs.Common.{◌≡◌, ◌≤◌, ◌+◌, take}
use Rattle.std.specs.Prelude.{sum}
use Rattle.vortex_prune.specs.Scanning.RangeScans.{ranges_by, tested_by}
use Rattle.vortex_prune.specs.Scanning.Selection.{is_skipped, is_whole, places_where}
use Rattle.vortex_prune.proofs.scan.ranges.scan_counts.Given as goal

-- the ranges before this one were scanned, and this one begins where they end
abbrev pub invariant-loop-place : goal.invariant-loop-place
invariant-loop-place l = record {
  first : l.first ≡ l.from + sum (take l.place l.counts);
  within : l.scan.evaluated ≤ l.first;
  skipped : l.scan.skipped.items ≡ places_where is_skipped (take l.place l.verdicts);
  whole : l.scan.whole.items ≡ places_where is_whole (take l.place l.verdicts);
  selected : l.scan.selected ≡ ranges_by l.predicate l.chunk 0 l.from (take l.place l.verdicts) (take l.place l.counts);
  evaluated : l.scan.evaluated ≡ tested_by (take l.place l.verdicts) (take l.place l.counts);
}
