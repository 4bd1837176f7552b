use Rattle.std.proofs.Common.{◌∙◌, map, sym}
use Rattle.vortex_parquet.specs.Stretches.{all_follow as all_follow_in, paged_view}
use Rattle.vortex_parquet.proofs.StretchLoops.{all_done, all_goes, all_stops}
use Rattle.vortex_parquet.proofs.stretches.all_follow.Goals as goal

pub returns-then-not-follow : goal.returns-then-not-follow
returns-then-not-follow c = all_stops c.args.columns.now c.loop-column.column-index _ c.args.rows (all_follow_in c.args.rows (map paged_view c.args.columns.now)) c.loop-column-test.true (sym c.follow.ensures ∙ c.if-not-follow.true) c.loop-column.invariant

pub loop-column-preserved : goal.loop-column-preserved
loop-column-preserved c = all_goes c.args.columns.now c.loop-column.column-index _ c.args.rows (all_follow_in c.args.rows (map paged_view c.args.columns.now)) c.loop-column-test.true (sym c.follow.ensures ∙ c.if-not-follow.false) c.loop-column.invariant

pub returns : goal.returns
returns c = all_done c.args.columns.now c.loop-column.column-index c.args.rows (all_follow_in c.args.rows (map paged_view c.args.columns.now)) c.loop-column-test.false c.loop-column.invariant
