use Rattle.std.proofs.Common.{◌≡◌, ◌-◌}
use Rattle.vortex_parquet.specs.Fields.{many}
use Rattle.vortex_parquet.specs.PageIndex.{location_of}
use Rattle.vortex_parquet.proofs.Loops.{with_all}
use Rattle.vortex_parquet.proofs.offset_index.locations_of.Given as goal

abbrev pub invariant-loop : goal.invariant-loop
invariant-loop l = with_all l.locations.items (many location_of (l.count - l.counter) l.rest) ≡ many location_of l.count l.bytes
