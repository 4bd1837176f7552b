use Rattle.std.proofs.Common.{◌≡◌, ◌++◌, drop, map}
use Rattle.vortex_zone_map.specs.ZoneMaps.{heads, heads_from, told_of}
use Rattle.vortex_zone_map.proofs.zone_map.row_of.Given as goal

-- what is listed so far, and what is to come, is all
abbrev pub invariant-loop-place : goal.invariant-loop-place
invariant-loop-place l = l.values.items ++ map (told_of l.zone) (heads_from l.place (drop l.place l.scope)) ≡ map (told_of l.zone) (heads l.scope)
