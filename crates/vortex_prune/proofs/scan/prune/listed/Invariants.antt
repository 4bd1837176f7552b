use Rattle.std.proofs.Common.{◌≡◌, take}
use Rattle.vortex_prune.specs.Scanning.Selection.{is_skipped, is_whole, places_where}
use Rattle.vortex_prune.proofs.scan.prune.listed.Given as goal

abbrev pub invariant-loop-place : goal.invariant-loop-place
invariant-loop-place l = record {
  skipped : l.pruned.skipped.items ≡ places_where is_skipped (take l.place l.verdicts);
  whole : l.pruned.whole.items ≡ places_where is_whole (take l.place l.verdicts);
}
