use Rattle.std.proofs.Common.{◌≡◌, ◌≤◌, [], length}
use Rattle.vortex_syntax.specs.Words.{quoted, words_from}
use Rattle.vortex_syntax.proofs.word.quoted_at.Given as goal

-- the text so far is what was read
abbrev pub invariant-runs : goal.invariant-runs
invariant-runs l = record {
  same : words_from l.bytes (quoted []) ≡ words_from l.rest (quoted l.text.items);
  shorter : length l.rest ≤ length l.bytes;
}

abbrev pub decreases-runs : goal.decreases-runs
decreases-runs l = length l.rest
