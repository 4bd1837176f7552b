use Rattle.std.proofs.Common.{◌≡◌, ◌-◌}
use Rattle.std.specs.Prelude.{sum}
use Rattle.vortex_prune.specs.Scanning.RangeScans.{counts_of}
use Rattle.vortex_zone_map.specs.Logs.{zones_from}
use Rattle.vortex_text.proofs.parts.rows_from.Given as goal

-- the rows of the zones so far
abbrev pub invariant-loop-place : goal.invariant-loop-place
invariant-loop-place l = l.rows ≡ sum (counts_of (zones_from l.from (l.place - l.from) l.log.zones))
