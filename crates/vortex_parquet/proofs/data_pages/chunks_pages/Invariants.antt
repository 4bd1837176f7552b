use Rattle.std.proofs.Common.{◌≡◌, drop, map}
use Rattle.vortex_parquet.specs.DataPages.{chunks_pages as pages_in}
use Rattle.vortex_parquet.specs.GroupPages.{tail_view}
use Rattle.vortex_parquet.proofs.Loops.{with_all}
use Rattle.vortex_parquet.proofs.data_pages.chunks_pages.Given as goal

abbrev pub invariant-loop-column : goal.invariant-loop-column
invariant-loop-column l = with_all l.pages.items (pages_in (tail_view l.tail) l.group l.rows l.column (drop l.column (map (λ s. s.now) l.chunks))) ≡ pages_in (tail_view l.tail) l.group l.rows 0 (map (λ s. s.now) l.chunks)
