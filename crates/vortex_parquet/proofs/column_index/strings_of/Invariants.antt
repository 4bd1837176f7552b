use Rattle.std.proofs.Common.{◌≡◌, ◌-◌, map}
use Rattle.vortex_parquet.specs.Compact.{binary_at}
use Rattle.vortex_parquet.specs.Fields.{many}
use Rattle.vortex_parquet.proofs.Loops.{with_all}
use Rattle.vortex_parquet.proofs.column_index.strings_of.Given as goal

abbrev pub invariant-loop : goal.invariant-loop
invariant-loop l = with_all (map (λ s. s.now) l.strings.items) (many binary_at (l.count - l.counter) l.rest) ≡ many binary_at l.count l.bytes
