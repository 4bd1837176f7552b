use Rattle.std.proofs.Common.{◌-◌, ◌≡◌, get_or, length, take, drop, arith}
use Rattle.vortex_syntax.proofs.PlainLemmas.{uncons}
use Rattle.vortex_syntax.proofs.plain_statistic.spaced_word.Goals as goal

pub returns-clause-word : goal.returns-clause-word
returns-clause-word c =
    let text = c.args.text.now in
    let space : get_or text 0 0 ≡ 32 = omega arith in
    (take (length text - 1) (drop 1 text), uncons text 32 (omega arith) space, c.in_ok-word.ensures.word)
