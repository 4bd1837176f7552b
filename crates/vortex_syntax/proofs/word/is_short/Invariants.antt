use Rattle.std.proofs.Common.{◌≡◌, ◌≤◌, ◌==◌, ◌+◌, true, false, get_or, length}
use Rattle.std.specs.List.{list_any}
use Rattle.vortex_syntax.specs.Copies.{is_copied}
use Rattle.vortex_syntax.specs.Words.{words}
use Rattle.vortex_syntax.proofs.word.is_short.Given as goal

-- the words so far and those to come
abbrev pub invariant-words : goal.invariant-words
invariant-words l = record {
  all : l.count + length (words l.rest) ≡ length (words l.line);
  few : l.count ≤ 4096;
  at_word : (get_or l.rest 0 0 == 32) ≡ false;
  later : list_any is_copied (words l.rest) ≡ true → list_any is_copied (words l.line) ≡ true;
}

abbrev pub decreases-words : goal.decreases-words
decreases-words l = length (words l.rest)
