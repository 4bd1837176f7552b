use Rattle.std.proofs.Common.{◌≡◌, drop}
use Rattle.vortex_expr.specs.Patterns.Substring.{letters}
use Rattle.vortex_expr.proofs.like.substring.Letters.skip.Given as goal

abbrev pub invariant-loop-passed : goal.invariant-loop-passed
invariant-loop-passed l = record {
  left : letters l.left ≡ drop l._passed (letters l.initial.left);
  kind : l.left.of_pattern ≡ l.initial.left.of_pattern;
}
