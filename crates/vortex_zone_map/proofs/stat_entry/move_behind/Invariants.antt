use Rattle.std.proofs.Common.{◌≡◌, ◌++◌, ◌+◌, ◌-◌, ◌≤◌, length, take, vec_capacity, vec_len}
use Rattle.vortex_zone_map.proofs.stat_entry.move_behind.Given as goal

-- what was moved so far stands behind the others, and there is room for the rest
abbrev pub invariant-loop-next : goal.invariant-loop-next
invariant-loop-next l = record {
  moved : l.told.items ≡ l.fn.told.items ++ take l.next-index l.fn.more.items;
  room : vec_len l.told + (length l.fn.more.items - l.next-index) ≤ vec_capacity l.told;
}
