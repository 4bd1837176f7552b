use Rattle.std.proofs.Common.{◌≡◌, length, take, drop, get_or, arith, ◌-◌}
use Rattle.vortex_syntax.proofs.PlainLemmas.{uncons, value_cell}
use Rattle.vortex_syntax.proofs.plain.number_cell.Goals as goal

pub returns-then-ends_word-clause-value : goal.returns-then-ends_word-clause-value
returns-then-ends_word-clause-value c =
    let text = c.args.text.now in
    let space : get_or text 0 0 ≡ 32 = omega arith in
    rw c.in-Primitive.is
    (value_cell c.in-Primitive.ptype c.in-Primitive.field-1 text (take (length text - 1) (drop 1 text)) c.in_ok-cell.rest.now c.in_ok-cell.cell
    (uncons text 32 (omega arith) space) c.in_ok-cell.ensures.whole (c.ends_word.ensures c.if-ends_word.true))
