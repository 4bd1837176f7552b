use Rattle.std.proofs.lemmas.Result.{err_from_is_err_and}
use Rattle.vortex_parquet.proofs.PageIndexes.{chunks_done, chunks_fail, chunks_go}
use Rattle.vortex_parquet.proofs.page_indexes.chunks_begin.Goals as goal

pub returns-in_err-places-clause-refused : goal.returns-in_err-places-clause-refused
returns-in_err-places-clause-refused c =
    let p = err_from_is_err_and c.from_residual.result c.from_residual.ensures.1 in
    rw (p.1, p.2) (chunks_fail c.in_err-places.field-0.0 (λ s. s.now) c.args.chunks.now c.loop-chunk.chunk-index _ c.loop-chunk.begin c.loop-chunk-test.true c.in_err-places.ensures c.loop-chunk.invariant)

pub loop-chunk-preserved : goal.loop-chunk-preserved
loop-chunk-preserved c = rw (c.lesser-begin.ensures, c.lesser.ensures) (chunks_go (λ s. s.now) c.args.chunks.now c.loop-chunk.chunk-index _ c.in_ok-places.places c.loop-chunk.begin c.loop-chunk-test.true c.in_ok-places.ensures c.loop-chunk.invariant)

pub returns-clause-begin : goal.returns-clause-begin
returns-clause-begin c = chunks_done (λ s. s.now) c.args.chunks.now c.loop-chunk.chunk-index c.loop-chunk.begin c.loop-chunk-test.false c.loop-chunk.invariant
