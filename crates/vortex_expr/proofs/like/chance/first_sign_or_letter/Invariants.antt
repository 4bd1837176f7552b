use Rattle.std.proofs.Common.{ℕ, ◌<◌}
use Rattle.memchr.specs.Find.{Passes}
use Rattle.vortex_expr.specs.Patterns.Chance.{is_sign_or_letter}
use Rattle.vortex_expr.proofs.like.chance.first_sign_or_letter.Given as goal

abbrev pub invariant-loop-place : goal.invariant-loop-place
invariant-loop-place l = (k : ℕ) → k < l.place → ¬ Passes is_sign_or_letter l.bytes k
