use Rattle.std.proofs.Common.{◌≡◌, ◌++◌, drop, map}
use Rattle.vortex_parquet.specs.Stats.{group_view}
use Rattle.vortex_capi.specs.ParquetCalls.FooterPrunes.{all_told as told_of_all}
use Rattle.vortex_capi.proofs.parquet.row_group.all_told.Given as goal

abbrev pub invariant-loop-place : goal.invariant-loop-place
invariant-loop-place l = l.told.items ++ told_of_all (map group_view (drop l.place l.groups)) (drop l.place l.verdicts) ≡ told_of_all (map group_view l.groups) l.verdicts
