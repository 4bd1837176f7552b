use Rattle.std.proofs.Common.{sym, ap, ◌∙◌, arith}
use Rattle.vortex_syntax.proofs.WordLemmas.{begins_quoted}
use Rattle.vortex_syntax.proofs.BadLemmas.{bad_fails}
use Rattle.vortex_syntax.specs.Words.{plain_word, words}
use Rattle.vortex_syntax.proofs.word.plain_word.Goals as goal

pub returns-in-34-clause-word : goal.returns-in-34-clause-word
returns-in-34-clause-word c =
    bad_fails c.at-in-34.result (plain_word (words c.args.line.now)) c.at-in-34.ensures
    (ap plain_word (sym c.skip_spaces-text.ensures.same) ∙ begins_quoted c.skip_spaces-text.result.now (omega arith) (omega arith))
