use Rattle.std.proofs.Common.{map, ◌∙◌}
use Rattle.std.proofs.lemmas.Result.{err_from_is_err_and}
use Rattle.vortex_parquet.specs.Records.{chunk_size as chunk_size_of}
use Rattle.vortex_parquet.specs.Stats.{all_of}
use Rattle.vortex_parquet.proofs.Alls.{all_goes, all_fails, all_done, all_of-map}
use Rattle.vortex_parquet.proofs.Loops.{none_before}
use Rattle.vortex_parquet.proofs.stats.sizes_of.Goals as goal

pub loop-column-init : goal.loop-column-init
loop-column-init c = rw c.in_ok-sizes.ensures.items (none_before (all_of (λ s. chunk_size_of s.now) c.args.columns.now) ∙ all_of-map chunk_size_of (λ s. s.now) c.args.columns.now)

pub returns-in_err-chunk_size : goal.returns-in_err-chunk_size
returns-in_err-chunk_size c =
    let p = err_from_is_err_and c.from_residual-in_err-chunk_size.result c.from_residual-in_err-chunk_size.ensures.1 in
    rw (p.1, p.2) (all_fails c.in_err-chunk_size.field-0.0 (λ s. chunk_size_of s.now) c.args.columns.now c.loop-column.sizes.items c.loop-column.column-index _ (all_of chunk_size_of (map (λ s. s.now) c.args.columns.now)) c.loop-column-test.true c.in_err-chunk_size.ensures c.loop-column.invariant)

pub loop-column-preserved : goal.loop-column-preserved
loop-column-preserved c =
    rw c.in_ok-push.ensures.items (all_goes (λ s. chunk_size_of s.now) c.args.columns.now c.loop-column.sizes.items c.loop-column.column-index _ c.in_ok-chunk_size.field-0 (all_of chunk_size_of (map (λ s. s.now) c.args.columns.now)) c.loop-column-test.true c.in_ok-chunk_size.ensures c.loop-column.invariant)

pub returns : goal.returns
returns c = all_done (λ s. chunk_size_of s.now) c.args.columns.now c.loop-column.sizes.items c.loop-column.column-index (all_of chunk_size_of (map (λ s. s.now) c.args.columns.now)) c.loop-column-test.false c.loop-column.invariant
