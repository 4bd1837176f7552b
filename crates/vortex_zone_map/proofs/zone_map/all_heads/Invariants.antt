use Rattle.std.proofs.Common.{◌≡◌, ◌++◌, drop, length}
use Rattle.vortex_zone_map.specs.ZoneMaps.{heads, heads_from, starts_from}
use Rattle.vortex_zone_map.proofs.zone_map.all_heads.Given as goal

-- what is listed so far, and what is to come, is all
abbrev pub invariant-loop-place : goal.invariant-loop-place
invariant-loop-place l = record {
  heads : l.heads.items ++ heads_from l.place (drop l.place l.scope) ≡ heads l.scope;
  starts : l.starts.items ++ starts_from (length l.heads.items) (drop l.place l.scope) ≡ starts_from 0 l.scope;
}
