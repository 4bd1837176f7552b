use Rattle.std.proofs.Common.{sym, ◌∙◌}
use Rattle.std.proofs.lemmas.List.{take_rest}
use Rattle.vortex_syntax.proofs.WordLemmas.{words_split, words_whole}
use Rattle.vortex_syntax.proofs.word.split_word.Goals as goal

pub returns-in-Some-clause-word : goal.returns-in-Some-clause-word
returns-in-Some-clause-word c =
    let text = c.args.text.now in
    rw (take_rest text c.in-Some.end)
    (words_split text c.in-Some.end c.requires.some c.requires.no_space c.requires.no_quote (sym c.space.ensures ∙ c.in-Some.is))

pub returns-in-None-clause-word : goal.returns-in-None-clause-word
returns-in-None-clause-word c =
    words_whole c.args.text.now c.requires.some c.requires.no_space c.requires.no_quote (sym c.space.ensures ∙ c.in-None.is)
