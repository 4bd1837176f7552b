use Rattle.std.proofs.Common.{◌≡◌, ◌++◌, ◌-◌, length}
use Rattle.vortex_zone_map.specs.Kept.{AreKept, IsLonger, said, sets_of}
use Rattle.vortex_zone_map.specs.Logs.{empty_sets}
use Rattle.vortex_zone_map.proofs.join.told_of.Given as goal

-- the sets so far, and behind them those of which nothing is told yet
abbrev pub invariant-loop-set : goal.invariant-loop-set
invariant-loop-set l = record {
  count : l.column ≡ length l.yielded;
  kept : AreKept (length l.var_len_values.items) l.told.items;
  longer : IsLonger l.fn.var_len_values.items l.var_len_values.items;
  told : sets_of (length l.fn.sets.items) (said l.var_len_values.items l.told.items) ≡ l.yielded ++ empty_sets (length l.fn.sets.items - length l.yielded);
}
