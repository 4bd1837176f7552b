use Rattle.std.proofs.Common.{◌≡◌, ◌-◌, map}
use Rattle.vortex_parquet.specs.Fields.{many}
use Rattle.vortex_parquet.specs.Stats.{group_at as group_at_of, group_view}
use Rattle.vortex_parquet.proofs.Loops.{with_all}
use Rattle.vortex_parquet.proofs.stats.groups_in.Given as goal

abbrev pub invariant-loop : goal.invariant-loop
invariant-loop l = let one = group_at_of l.leaves l.columns l.orders in with_all (map group_view l.known.items) (many one (l.count - l.counter) l.rest) ≡ many one l.count l.bytes
