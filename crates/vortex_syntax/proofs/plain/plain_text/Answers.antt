use Rattle.std.proofs.Common.{◌≡◌, length, take, drop, get_or, arith, ◌-◌}
use Rattle.vortex_syntax.proofs.PlainLemmas.{uncons_two, value_in_quotes}
use Rattle.vortex_syntax.proofs.plain.plain_text.Goals as goal

pub returns-then-ends_word-clause-value : goal.returns-then-ends_word-clause-value
returns-then-ends_word-clause-value c =
    let text = c.args.text.now in
    let space : get_or text 0 0 ≡ 32 = omega arith in
    let quote : get_or text 1 0 ≡ 34 = omega arith in
    rw c.in-Utf8-Some.is-0
    (value_in_quotes c.in-Utf8-Some.field-0-0 text (take (length text - 2) (drop 2 text)) c.in-Utf8-Some.quoted.now c.in-Utf8-Some.rest.now
    (uncons_two text 32 34 (omega arith) space quote) c.in-Utf8-Some.ensures (c.ends_word.ensures c.if-ends_word.true))
