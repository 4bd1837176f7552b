use Rattle.std.proofs.Common.{map}
use Rattle.std.proofs.lemmas.Result.{err_from_is_err_and}
use Rattle.vortex_parquet.specs.DataPages.{chunks_pages as pages_in}
use Rattle.vortex_parquet.specs.GroupPages.{tail_view}
use Rattle.vortex_parquet.proofs.DataPages.{chunks_done, chunks_fail, chunks_go, chunks_start}
use Rattle.vortex_parquet.proofs.data_pages.chunks_pages.Goals as goal

pub loop-column-init : goal.loop-column-init
loop-column-init c = rw c.new-pages.ensures.items (chunks_start (tail_view c.args.tail) c.args.group c.args.rows (map (λ s. s.now) c.args.chunks.now))

pub returns-in_err-found : goal.returns-in_err-found
returns-in_err-found c =
    let p = err_from_is_err_and c.from_residual.result c.from_residual.ensures.1 in
    let total = pages_in (tail_view c.args.tail) c.args.group c.args.rows 0 (map (λ s. s.now) c.args.chunks.now) in
    rw (p.1, p.2) (chunks_fail c.in_err-found.field-0.0 (λ s. s.now) c.args.chunks.now (tail_view c.args.tail) c.args.group c.args.rows c.loop-column.pages.items c.loop-column.column _ total c.loop-column-test.true c.in_err-found.ensures c.loop-column.invariant)

pub loop-column-preserved : goal.loop-column-preserved
loop-column-preserved c =
    let total = pages_in (tail_view c.args.tail) c.args.group c.args.rows 0 (map (λ s. s.now) c.args.chunks.now) in
    rw c.in_ok-append.ensures.items (chunks_go (λ s. s.now) c.args.chunks.now (tail_view c.args.tail) c.args.group c.args.rows c.loop-column.pages.items c.loop-column.column _ c.in_ok-found.found.items total c.loop-column-test.true c.in_ok-found.ensures c.loop-column.invariant)

pub returns : goal.returns
returns c =
    let total = pages_in (tail_view c.args.tail) c.args.group c.args.rows 0 (map (λ s. s.now) c.args.chunks.now) in
    chunks_done (λ s. s.now) c.args.chunks.now (tail_view c.args.tail) c.args.group c.args.rows c.loop-column.pages.items c.loop-column.column total c.loop-column-test.false c.loop-column.invariant
