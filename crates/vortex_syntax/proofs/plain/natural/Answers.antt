use Rattle.std.proofs.Common.{◌-◌, drop, length, take, arith}
use Rattle.vortex_syntax.proofs.PlainLemmas.{first_eight, longer_natural, natural_front}
use Rattle.vortex_syntax.proofs.plain.natural.Goals as goal

pub returns-then-count-eq8-clause-digits : goal.returns-then-count-eq8-clause-digits
returns-then-count-eq8-clause-digits c =
    let text = c.args.text.now in
    let number = c.front_digits-count.result.1 in
    let eight = c.if-count-eq8.true in
    let first = first_eight text number (omega arith) (rw eight at c.front_digits-count.ensures.digits) (rw eight at c.front_digits-count.ensures.number) in
    longer_natural (λ x. x.0) (λ x. x.1.now) c.longer.result text (take (length text - 8) (drop 8 text)) number c.longer.ensures.digits c.longer.ensures.no_longer first (grind arith)

pub returns-clause-digits : goal.returns-clause-digits
returns-clause-digits c =
    natural_front c.args.text.now c.front_digits-count.result.0 c.front_digits-count.result.1 (omega (arith, c.front_digits-count.ensures.within)) c.if-count-eq0.false c.front_digits-count.ensures.digits c.front_digits-count.ensures.number
