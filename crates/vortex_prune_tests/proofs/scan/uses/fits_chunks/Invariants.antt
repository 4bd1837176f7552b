use Rattle.std.proofs.Common.{All, IsTrue, take}
use Rattle.vortex_expr.specs.Meanings.Fitting.{fits_scope}
use Rattle.vortex_prune_tests.proofs.scan.uses.fits_chunks.Given as goal

abbrev pub invariant-loop-chunk : goal.invariant-loop-chunk
invariant-loop-chunk l = All (λ chunk. IsTrue (fits_scope l.predicate chunk.scope)) (take l.chunk-index l.chunks)
