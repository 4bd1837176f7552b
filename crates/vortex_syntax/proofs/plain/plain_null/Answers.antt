use Rattle.std.proofs.Common.{◌≡◌, length, take, drop, get_or, refl, sym, ◌∙◌, arith, ◌-◌}
use Rattle.vortex_syntax.proofs.PlainLemmas.{value_null_at}
use Rattle.vortex_syntax.proofs.plain.plain_null.Goals as goal

pub returns-then-ends_word-clause-value : goal.returns-then-ends_word-clause-value
returns-then-ends_word-clause-value c =
    let text = c.args.text.now in
    let word = take (length text - 1) (drop 1 text) in
    let space : get_or text 0 0 ≡ 32 = omega arith in
    let n : get_or word 0 0 ≡ 110 = omega arith in
    let u : get_or word 1 0 ≡ 117 = omega arith in
    let l : get_or word 2 0 ≡ 108 = omega arith in
    let m : get_or word 3 0 ≡ 108 = omega arith in
    value_null_at c.args.dtype text word refl (sym c.is_nullable.ensures ∙ c.if-not-is_nullable.false) (omega arith) space (omega arith) n u l m (c.ends_word.ensures c.if-ends_word.true)
