use Rattle.std.proofs.Common.{◌≡◌, ◌+◌, ◌++◌, map, take}
use Rattle.vortex_base.proofs.offsets.Offsets.extend_one_by_one.Given as goal

-- the first of the others stand behind the places
abbrev pub invariant-loop-i : goal.invariant-loop-i
invariant-loop-i l = l.self ≡ l.initial.self ++ map (λ e. l.by + e) (take l.i l.others)
