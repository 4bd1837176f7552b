use denote.Shadow.{shadow}
use denote.Text.{Utf8}
use Rattle.std.proofs.Common.{◌≡◌, length}
use Rattle.std.specs.Str.{chars}
use Rattle.vortex_expr.specs.Patterns.Prefix.{successor}
use Rattle.vortex_expr.proofs.like_pattern.successor.Given as goal

-- what was passed has no successor
abbrev pub invariant-loop-last : goal.invariant-loop-last
invariant-loop-last l = record { text : shadow (Utf8 l.rest); same : successor (chars l.rest) ≡ successor (chars l.initial.rest) }

abbrev pub decreases-loop-last : goal.decreases-loop-last
decreases-loop-last l = length l.rest
