use Rattle.std.proofs.Common.{◌≡◌, map, drop}
use Rattle.vortex_parquet.specs.Records.{chunk_size as chunk_size_of}
use Rattle.vortex_parquet.specs.Stats.{all_of}
use Rattle.vortex_parquet.proofs.Loops.{with_all}
use Rattle.vortex_parquet.proofs.stats.sizes_of.Given as goal

abbrev pub invariant-loop-column : goal.invariant-loop-column
invariant-loop-column l = with_all l.sizes.items (all_of (λ s. chunk_size_of s.now) (drop l.column-index l.columns)) ≡ all_of chunk_size_of (map (λ s. s.now) l.columns)
