use Rattle.std.proofs.Common.{◌≡◌, drop, length}
use Rattle.std.specs.List.{range_with_len}
use Rattle.vortex_parquet.specs.DataPages.{data_page_at as page_at, located_pages as pages_at}
use Rattle.vortex_parquet.specs.Stats.{all_of}
use Rattle.vortex_parquet.proofs.Loops.{with_all}
use Rattle.vortex_parquet.proofs.data_pages.located_pages.Given as goal

abbrev pub invariant-loop-place : goal.invariant-loop-place
invariant-loop-place l = with_all l.pages.items (all_of (page_at l.group l.column l.rows l.locations) (drop l.place (range_with_len 0 (length l.locations)))) ≡ pages_at l.group l.column l.rows l.locations
