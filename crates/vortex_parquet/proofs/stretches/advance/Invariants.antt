use Rattle.std.proofs.Common.{map}
use Rattle.vortex_parquet.specs.Stretches.{paged_view}
use Rattle.vortex_parquet.proofs.StretchLoops.{AreMovedTo}
use Rattle.vortex_parquet.proofs.stretches.advance.Given as goal

abbrev pub invariant-loop-place : goal.invariant-loop-place
invariant-loop-place l = AreMovedTo l.row l.place (map paged_view l.initial.columns) (map paged_view l.columns)
