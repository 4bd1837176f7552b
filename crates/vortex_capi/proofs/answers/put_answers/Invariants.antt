use Rattle.std.proofs.Common.{◌≡◌, map, take}
use Rattle.vortex_capi.specs.Prunes.{answer_of}
use Rattle.vortex_capi.proofs.answers.put_answers.Given as goal

-- the answers before this one are put
abbrev pub invariant-loop-place : goal.invariant-loop-place
invariant-loop-place l = take l.place l.answers ≡ map answer_of (take l.place l.verdicts)
