use Rattle.std.proofs.Common.{◌≡◌, ◌++◌, map, drop}
use Rattle.vortex_predicates.specs.RowGroups.Pruning.{zone_data}
use Rattle.vortex_predicates.proofs.row_groups.zones.zones_in.Given as goal

abbrev pub invariant-loop-group : goal.invariant-loop-group
invariant-loop-group l = l.zones.items ++ map zone_data (drop l.group-index l.groups) ≡ map zone_data l.groups
