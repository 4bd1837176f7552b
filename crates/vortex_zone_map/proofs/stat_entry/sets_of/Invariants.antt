use Rattle.std.proofs.Common.{◌≡◌, drop}
use Rattle.vortex_zone_map.specs.Kept.{said, sets_of, sets_with}
use Rattle.vortex_zone_map.proofs.stat_entry.sets_of.Given as goal

-- what is left makes of the sets those of all
abbrev pub invariant-loop-place : goal.invariant-loop-place
invariant-loop-place l = sets_with l.sets.items (said l.var_len_values (drop l.place l.told)) ≡ sets_of l.columns (said l.var_len_values l.told)
