use Rattle.std.proofs.Common.{◌≡◌, ◌-◌, map}
use Rattle.vortex_parquet.specs.Fields.{many}
use Rattle.vortex_parquet.specs.GroupPages.{tail_view}
use Rattle.vortex_parquet.proofs.Loops.{with_all}
use Rattle.vortex_predicates.specs.Footers.PagedGroups.{paged_at as paged_at_of, paged_view}
use Rattle.vortex_predicates.proofs.parquet.paged.paged_in.Given as goal

abbrev pub invariant-loop : goal.invariant-loop
invariant-loop l = let one = paged_at_of (tail_view l.tail) l.leaves l.columns l.orders in with_all (map paged_view l.paged.items) (many one (l.count - l.counter) l.rest) ≡ many one l.count l.bytes
