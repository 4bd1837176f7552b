use Rattle.std.proofs.Common.{◌≡◌, ◌+◌, ◌-◌, ◌*◌, drop, slice_index}
use Rattle.memchr.proofs.lemmas.SuffixLemmas.{IsScan}
use Rattle.vortex_expr.specs.Patterns.Substring.{letters, Precedes}
use Rattle.vortex_expr.proofs.like.substring.greatest_suffix.Given as goal

-- the cursors stand at their places
abbrev pub invariant-loop-current : goal.invariant-loop-current
invariant-loop-current l = record {
  scan : IsScan (Precedes l.reversed) (slice_index (letters l.fn.needle)) l.count l.pos l.period l.candidate l.offset;
  at_pos : letters l.at_pos ≡ drop l.pos (letters l.fn.needle);
  at_candidate : letters l.at_candidate ≡ drop l.candidate (letters l.fn.needle);
  before : letters l.before ≡ drop (l.pos + l.offset) (letters l.fn.needle);
  after : letters l.after ≡ drop (l.candidate + l.offset) (letters l.fn.needle);
}

abbrev pub decreases-loop-current : goal.decreases-loop-current
decreases-loop-current l = 2 * l.count + 1 - (l.pos + l.candidate + l.offset)
