use Rattle.std.proofs.Common.{◌≡◌, All, take}
use Rattle.vortex_testing.proofs.parts.all_scoped.Given as goal

abbrev pub invariant-loop-part : goal.invariant-loop-part
invariant-loop-part l = All (λ part. part.chunk.scope ≡ l.scope) (take l.part-index l.parts)
