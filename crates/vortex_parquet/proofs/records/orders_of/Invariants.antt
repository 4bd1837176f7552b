use Rattle.std.proofs.Common.{◌≡◌, ◌-◌}
use Rattle.vortex_parquet.specs.Fields.{many}
use Rattle.vortex_parquet.specs.Records.{order_of}
use Rattle.vortex_parquet.proofs.Loops.{with_all}
use Rattle.vortex_parquet.proofs.records.orders_of.Given as goal

abbrev pub invariant-loop : goal.invariant-loop
invariant-loop l = with_all (l.orders.items) (many order_of (l.count - l.counter) l.rest) ≡ many order_of l.count l.bytes
