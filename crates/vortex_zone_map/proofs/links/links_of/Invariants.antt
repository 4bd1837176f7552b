use Rattle.std.proofs.Common.{◌≡◌, ◌*◌, length}
use Rattle.vortex_zone_map.specs.Tables.{AreLinked}
use Rattle.vortex_zone_map.proofs.links.links_of.Given as goal

-- the heads from there on are linked
abbrev pub invariant-loop-place : goal.invariant-loop-place
invariant-loop-place l = record {
  wide : length l.links.firsts.items ≡ l.columns * 9;
  linked : AreLinked l.heads l.place l.links;
}
