use Rattle.std.proofs.Common.{map}
use Rattle.vortex_parquet.proofs.PageIndexes.{IsBeginTo}
use Rattle.vortex_parquet.proofs.page_indexes.chunks_begin.Given as goal

abbrev pub invariant-loop-chunk : goal.invariant-loop-chunk
invariant-loop-chunk l = IsBeginTo (map (λ s. s.now) l.chunks) l.chunk-index l.begin
