use Rattle.std.proofs.Common.{◌≡◌, ◌-◌, map}
use Rattle.vortex_parquet.specs.Fields.{spans_in}
use Rattle.vortex_parquet.proofs.Loops.{with_all}
use Rattle.vortex_parquet.proofs.fields.spans.Given as goal

abbrev pub invariant-loop : goal.invariant-loop
invariant-loop l = with_all (map (λ s. s.now) l.spans.items) (spans_in (l.count - l.counter) l.rest) ≡ spans_in l.count l.bytes
