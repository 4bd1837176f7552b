use Rattle.std.proofs.Common.{◌≡◌, drop, map}
use Rattle.vortex_parquet.specs.Pages.{page_view}
use Rattle.vortex_parquet.specs.Stretches.{follow as follow_in}
use Rattle.vortex_parquet.proofs.stretches.follow.Given as goal

abbrev pub invariant-loop-page : goal.invariant-loop-page
invariant-loop-page l = follow_in l.from l.rows (drop l.page-index (map page_view l.pages)) ≡ follow_in 0 l.rows (map page_view l.pages)
