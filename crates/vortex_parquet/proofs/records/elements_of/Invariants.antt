use Rattle.std.proofs.Common.{◌≡◌, ◌-◌, map}
use Rattle.vortex_parquet.specs.Fields.{many}
use Rattle.vortex_parquet.specs.Records.{element_of, element_view}
use Rattle.vortex_parquet.proofs.Loops.{with_all}
use Rattle.vortex_parquet.proofs.records.elements_of.Given as goal

abbrev pub invariant-loop : goal.invariant-loop
invariant-loop l = with_all (map element_view l.elements.items) (many element_of (l.count - l.counter) l.rest) ≡ many element_of l.count l.bytes
