use Rattle.std.proofs.Common.{map}
use Rattle.vortex_parquet.specs.Stretches.{next_end as next_end_in, paged_view}
use Rattle.vortex_parquet.proofs.StretchLoops.{next_done, next_goes}
use Rattle.vortex_parquet.proofs.stretches.next_end.Goals as goal

pub loop-column-preserved : goal.loop-column-preserved
loop-column-preserved c = rw c.sooner-end.ensures (next_goes c.args.columns.now c.loop-column.column-index _ c.loop-column.end (next_end_in c.args.rows (map paged_view c.args.columns.now)) c.loop-column-test.true c.loop-column.invariant)

pub returns : goal.returns
returns c = next_done c.args.columns.now c.loop-column.column-index c.loop-column.end (next_end_in c.args.rows (map paged_view c.args.columns.now)) c.loop-column-test.false c.loop-column.invariant
