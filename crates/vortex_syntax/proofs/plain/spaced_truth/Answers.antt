use Rattle.std.proofs.Common.{◌-◌, ◌≡◌, get_or, length, take, drop, arith}
use Rattle.vortex_syntax.proofs.PlainLemmas.{uncons, value_truth}
use Rattle.vortex_syntax.proofs.plain.spaced_truth.Goals as goal

pub returns-then-ends_word-clause-value : goal.returns-then-ends_word-clause-value
returns-then-ends_word-clause-value c n =
    let text = c.args.text.now in
    let space : get_or text 0 0 ≡ 32 = omega arith in
    value_truth n text (take (length text - 1) (drop 1 text)) c.in_ok-truth.rest.now c.in_ok-truth.truth (uncons text 32 (omega arith) space) c.in_ok-truth.ensures.word (c.ends_word.ensures c.if-ends_word.true)
