use Rattle.std.proofs.Common.{◌≡◌, ◌++◌, length}
use Rattle.vortex_zone_map.specs.Kept.{AreKept, IsLonger, said, said_in}
use Rattle.vortex_zone_map.proofs.join.tell_set.Given as goal

-- what is told so far, and behind it what is left
abbrev pub invariant-loop-entry : goal.invariant-loop-entry
invariant-loop-entry l = record {
  kept : AreKept (length l.var_len_values.items) l.told.items;
  longer : IsLonger l.fn.var_len_values.items l.var_len_values.items;
  told : said l.var_len_values.items l.told.items ++ said_in l.column l.entry-iterator ≡ said l.fn.var_len_values.items l.fn.told.items ++ said_in l.column l.fn.set;
}
