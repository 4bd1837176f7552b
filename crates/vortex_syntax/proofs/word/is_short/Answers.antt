use Rattle.std.proofs.Common.{◌<◌, length, arith}
use Rattle.std.proofs.lemmas.Bool.Decides.{nat_tests}
use Rattle.vortex_syntax.proofs.WordLemmas.{some_words}
use Rattle.vortex_syntax.specs.Words.{words}
use Rattle.vortex_syntax.proofs.word.is_short.Goals as goal

pub returns-then-count-eq-WORD_LIMIT-clause-short : goal.returns-then-count-eq-WORD_LIMIT-clause-short
returns-then-count-eq-WORD_LIMIT-clause-short c =
    let more : 0 < length (words c.words.rest.now) = some_words c.words.rest.now (grind (arith, nat_tests)) c.words.invariant.at_word in
    grind (arith, nat_tests)

pub returns-in_default-clause-copies : goal.returns-in_default-clause-copies
returns-in_default-clause-copies c = c.words.invariant.later c.in_default.ensures.copies
