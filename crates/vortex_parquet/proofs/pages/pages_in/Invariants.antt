use Rattle.std.proofs.Common.{◌≡◌, drop, length, map}
use Rattle.std.specs.List.{range_with_len}
use Rattle.vortex_parquet.specs.PageIndex.{index_view}
use Rattle.vortex_parquet.specs.Pages.{page_at, page_view, pages_in}
use Rattle.vortex_parquet.specs.Stats.{all_of}
use Rattle.vortex_parquet.proofs.Loops.{with_all}
use Rattle.vortex_parquet.proofs.pages.pages_in.Given as goal

abbrev pub invariant-loop-place : goal.invariant-loop-place
invariant-loop-place l = with_all (map page_view l.pages.items) (all_of (page_at l.rows l.nullability (index_view l.index) l.locations) (drop l.place (range_with_len 0 (length l.locations)))) ≡ pages_in l.rows l.nullability (index_view l.index) l.locations
