use Rattle.std.proofs.Common.{◌≡◌, length, take, drop, get_or, arith, ◌-◌}
use Rattle.vortex_syntax.proofs.PlainLemmas.{uncons_two, value_bytes}
use Rattle.vortex_syntax.proofs.plain.plain_bytes.Goals as goal

pub returns-then-ends_word-clause-value : goal.returns-then-ends_word-clause-value
returns-then-ends_word-clause-value c =
    let text = c.args.text.now in
    let space : get_or text 0 0 ≡ 32 = omega arith in
    let x : get_or text 1 0 ≡ 120 = omega arith in
    rw c.in-Binary-eq32.is-0
    (value_bytes c.in-Binary-eq32.field-0-0 text (take (length text - 2) (drop 2 text)) c.in_ok-rest.rest.now c.read_pairs.new.bytes.items
    (uncons_two text 32 120 (omega arith) space x) c.in_ok-rest.ensures.pairs (c.ends_word.ensures c.if-ends_word.true))
