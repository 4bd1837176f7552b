use Rattle.std.proofs.Common.{sym, ◌∙◌, arith}
use Rattle.std.proofs.lemmas.List.{take_rest}
use Rattle.vortex_syntax.proofs.PlainLemmas.{word_begins}
use Rattle.vortex_syntax.proofs.plain.word.Goals as goal

pub returns-clause-word : goal.returns-clause-word
returns-clause-word c =
    let text = c.args.text.now in
    let end = c.in_ok-end.end in
    rw (take_rest text end) (word_begins text end (sym c.word_end.ensures ∙ c.in_ok-end.was) (omega arith))
