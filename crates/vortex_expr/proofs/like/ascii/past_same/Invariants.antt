use Rattle.std.proofs.Common.{◌≡◌, length}
use denote.Shadow.{shadow}
use denote.Text.{Utf8}
use Rattle.std.specs.Str.{chars}
use Rattle.vortex_expr.specs.Patterns.Like.{folded, items}
use Rattle.vortex_expr.specs.Patterns.LikeSearch.{stop}
use Rattle.vortex_expr.proofs.like.ascii.past_same.Given as goal

-- the stop is that of what is left
abbrev pub invariant-loop-wanted : goal.invariant-loop-wanted
invariant-loop-wanted l = record {
  same : stop (items (folded l.pattern_ignores (chars l.left))) (folded l.text_ignores (chars l.text))
      ≡ stop (items (folded l.pattern_ignores (chars l.initial.left))) (folded l.text_ignores (chars l.initial.text));
  left_utf8 : shadow (Utf8 l.left);
  text_utf8 : shadow (Utf8 l.text);
}

abbrev pub decreases-loop-wanted : goal.decreases-loop-wanted
decreases-loop-wanted l = length l.text
