use Rattle.std.proofs.Common.{◌≡◌, map, take}
use Rattle.vortex_capi.specs.NamedStats.{names_head}
use Rattle.vortex_capi.proofs.named.named_heads.Given as goal

abbrev pub invariant-loop-place : goal.invariant-loop-place
invariant-loop-place l = l.named.items ≡ map (names_head l.proofs.falsifier l.proofs.satisfier) (take l.place l.heads)
