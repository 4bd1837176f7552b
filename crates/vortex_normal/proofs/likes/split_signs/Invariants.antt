-- The signs that were split off stand behind the first one.
use Rattle.std.proofs.Common.{length}
use denote.Text.{Utf8}
use denote.Shadow.{shadow}
use Rattle.std.specs.Str.{chars}
use Rattle.vortex_normal.specs.Signs.{HasSigns}
use Rattle.vortex_normal.proofs.likes.split_signs.Given as goal

abbrev pub invariant-loop-before : goal.invariant-loop-before
invariant-loop-before l = shadow (Utf8 l.first) × shadow (Utf8 l.front) × HasSigns (chars l.pattern) (chars l.front) (chars l.first)

abbrev pub decreases-loop-before : goal.decreases-loop-before
decreases-loop-before l = length (chars l.front)
