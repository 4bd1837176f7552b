use Rattle.std.proofs.Common.{◌∙◌, map, sym}
use Rattle.vortex_parquet.specs.Pages.{page_view}
use Rattle.vortex_parquet.specs.Stretches.{follow as follow_in}
use Rattle.vortex_parquet.proofs.StretchLoops.{follow_done, follow_goes, follow_stops}
use Rattle.vortex_parquet.proofs.stretches.follow.Goals as goal

pub returns-then-not-begins_at : goal.returns-then-not-begins_at
returns-then-not-begins_at c = follow_stops c.args.pages.now c.loop-page.page-index _ c.loop-page.from c.args.rows (follow_in 0 c.args.rows (map page_view c.args.pages.now)) c.loop-page-test.true (sym c.begins_at.ensures ∙ c.if-not-begins_at.true) c.loop-page.invariant

pub loop-page-preserved : goal.loop-page-preserved
loop-page-preserved c = follow_goes c.args.pages.now c.loop-page.page-index _ c.loop-page.from c.args.rows (follow_in 0 c.args.rows (map page_view c.args.pages.now)) c.loop-page-test.true (sym c.begins_at.ensures ∙ c.if-not-begins_at.false) c.loop-page.invariant

pub returns : goal.returns
returns c = follow_done c.args.pages.now c.loop-page.page-index c.loop-page.from c.args.rows (follow_in 0 c.args.rows (map page_view c.args.pages.now)) c.loop-page-test.false c.loop-page.invariant
