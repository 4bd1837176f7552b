use Rattle.std.proofs.Common.{sym, ap, ◌∙◌, arith}
use Rattle.std.proofs.lemmas.Bool.Decides.{nat_tests}
use Rattle.vortex_syntax.proofs.WordLemmas.{has_word}
use Rattle.vortex_syntax.proofs.BadLemmas.{bad_fails}
use Rattle.vortex_syntax.specs.Words.{no_word, words}
use Rattle.vortex_syntax.proofs.word.no_word.Goals as goal

pub returns-else-is_empty-clause-word : goal.returns-else-is_empty-clause-word
returns-else-is_empty-clause-word c =
    bad_fails c.at.result (no_word (words c.args.line.now)) c.at.ensures
    (ap no_word (sym c.skip_spaces-text.ensures.same) ∙ has_word c.skip_spaces-text.result.now (grind (arith, nat_tests)) c.skip_spaces-text.ensures.at_word)
