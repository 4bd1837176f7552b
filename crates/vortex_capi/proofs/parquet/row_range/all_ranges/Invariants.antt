use Rattle.std.proofs.Common.{◌≡◌, ◌++◌, drop}
use Rattle.vortex_capi.specs.ParquetCalls.PagePrunes.{all_ranges as all_ranges_of}
use Rattle.vortex_capi.proofs.parquet.row_range.all_ranges.Given as goal

abbrev pub invariant-loop-place : goal.invariant-loop-place
invariant-loop-place l = l.told.items ++ all_ranges_of (drop l.place l.ranges) (drop l.place l.verdicts) ≡ all_ranges_of l.ranges l.verdicts
