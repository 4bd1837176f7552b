use Rattle.std.proofs.Common.{◌≡◌, ◌-◌}
use Rattle.vortex_parquet.specs.DataPages.{groups_pages as pages_in}
use Rattle.vortex_parquet.specs.GroupPages.{tail_view}
use Rattle.vortex_parquet.proofs.Loops.{with_all}
use Rattle.vortex_parquet.proofs.data_pages.groups_pages.Given as goal

abbrev pub invariant-loop-group : goal.invariant-loop-group
invariant-loop-group l = with_all l.pages.items (pages_in (tail_view l.tail) l.columns l.group (l.count - l.group) l.rest) ≡ pages_in (tail_view l.tail) l.columns 0 l.count l.bytes
