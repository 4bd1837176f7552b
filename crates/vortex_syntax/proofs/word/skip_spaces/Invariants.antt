use Rattle.std.proofs.Common.{◌≡◌, ◌≤◌, length}
use Rattle.vortex_syntax.specs.Words.{words}
use Rattle.vortex_syntax.proofs.word.skip_spaces.Given as goal

-- what was passed are spaces
abbrev pub invariant-spaces : goal.invariant-spaces
invariant-spaces l = record {
  same : words l.rest ≡ words l.line;
  shorter : length l.rest ≤ length l.line;
}

abbrev pub decreases-spaces : goal.decreases-spaces
decreases-spaces l = length l.rest
