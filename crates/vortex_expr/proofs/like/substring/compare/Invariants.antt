use Rattle.std.proofs.Common.{◌≡◌, ◌≤◌, ◌-◌, length, drop}
use Rattle.vortex_expr.specs.Patterns.Substring.{letters, AreSame}
use Rattle.vortex_expr.proofs.like.substring.compare.Given as goal

-- what is read so far is the same
abbrev pub invariant-loop-same : goal.invariant-loop-same
invariant-loop-same l = record {
  within : l.same ≤ l.count;
  inside : l.same ≤ length (letters l.initial.text);
  same : AreSame (letters l.initial.needle) (letters l.initial.text) l.same;
  needle : letters l.needle ≡ drop l.same (letters l.initial.needle);
  text : letters l.text ≡ drop l.same (letters l.initial.text);
}

abbrev pub decreases-loop-same : goal.decreases-loop-same
decreases-loop-same l = l.count - l.same
