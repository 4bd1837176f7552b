use Rattle.std.proofs.Common.{◌≡◌, map, take}
use Rattle.vortex_prune.proofs.Scanning.ScanLemmas.{AreBelow}
use Rattle.vortex_prune.specs.Part.{zone_of}
use Rattle.vortex_prune.proofs.zones.zones_of.Given as goal

abbrev pub invariant-loop-place : goal.invariant-loop-place
invariant-loop-place l = record {
  parts : AreBelow l.place l.parts;
  zones : l.zones.items ≡ map zone_of (take l.place l.parts);
}
