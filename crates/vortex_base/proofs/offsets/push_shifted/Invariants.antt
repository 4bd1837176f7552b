use Rattle.std.proofs.Common.{◌≡◌, ◌+◌, ◌++◌, map, take, vec_capacity, vec_len}
use Rattle.vortex_base.proofs.offsets.push_shifted.Given as goal

-- the first of the more places stand behind the others
abbrev pub invariant-loop-place : goal.invariant-loop-place
invariant-loop-place l = record {
  items : l.places.items ≡ l.initial.places.items ++ map (λ e. l.by + e) (take l.place-index l.more);
  len : vec_len l.places ≡ vec_len l.initial.places + l.place-index;
  capacity : vec_capacity l.places ≡ vec_capacity l.initial.places;
}
