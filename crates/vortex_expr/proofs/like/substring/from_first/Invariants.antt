use Rattle.std.proofs.Common.{◌≡◌, ◌<◌, length, drop, max}
use Rattle.vortex_expr.specs.Patterns.Substring.{letters, AreSame, IsPast}
use Rattle.vortex_expr.proofs.like.substring.from_first.Given as goal

-- the needle stands at no place passed over, and its first letters that are known stand here
abbrev pub invariant-loop-begin : goal.invariant-loop-begin
invariant-loop-begin l = record {
  past : IsPast (letters l.needle) (letters l.initial.begin) (letters l.begin);
  kind : l.begin.of_pattern ≡ l.initial.begin.of_pattern;
  known : AreSame (letters l.needle) (letters l.begin) l.known;
  start : l.start ≡ max l.critical l.known;
  within : l.start < l.count;
  compared : letters l.compared ≡ drop l.start (letters l.needle);
  front : letters l.front ≡ drop l.start (letters l.begin);
}

abbrev pub decreases-loop-begin : goal.decreases-loop-begin
decreases-loop-begin l = length (letters l.begin)
