use Rattle.std.proofs.Common.{◌∙◌, ap, refl, sym, take, arith}
use Rattle.std.proofs.lemmas.List.{length-take-le}
use Rattle.std.specs.Str.{all_ascii_digits}
use Rattle.std.specs.Str.Parse.{digits_value}
use Rattle.vortex_syntax.proofs.FrontLemmas.{all_digits, all_number, few_zeros, fewer, marked, small_front, some_digits, some_number}
use Rattle.vortex_syntax.proofs.plain.front_digits.Goals as goal

pub returns-then-others-eq0-clause-digits : goal.returns-then-others-eq0-clause-digits
returns-then-others-eq0-clause-digits c =
    let text = c.args.text.now in
    ap all_ascii_digits (fewer 8 text (omega arith))
    ∙ all_digits (take 8 text) c.front_word-worth.result (length-take-le 8 text c.requires) (small_front 8 text (λ i. (c.type_inv.text i).fits)) c.front_word-worth.ensures c.if-others-eq0.true

pub returns-then-others-eq0-clause-number : goal.returns-then-others-eq0-clause-number
returns-then-others-eq0-clause-number c =
    let text = c.args.text.now in
    all_number (take 8 text) c.front_word-worth.result _ (length-take-le 8 text c.requires) (small_front 8 text (λ i. (c.type_inv.text i).fits)) c.front_word-worth.ensures c.if-others-eq0.true c.eight_value.ensures
    ∙ sym (ap (digits_value 10) (fewer 8 text (omega arith)))

pub returns-clause-digits : goal.returns-clause-digits
returns-clause-digits c =
    let text = c.args.text.now in
    ap all_ascii_digits (fewer _ text (few_zeros (marked c.front_word-worth.result)))
    ∙ some_digits (take 8 text) c.front_word-worth.result (length-take-le 8 text c.requires) (small_front 8 text (λ i. (c.type_inv.text i).fits)) c.front_word-worth.ensures

pub returns-clause-number : goal.returns-clause-number
returns-clause-number c =
    let text = c.args.text.now in
    some_number (take 8 text) c.front_word-worth.result _ c.wrapping_shl.result _ (length-take-le 8 text c.requires) (small_front 8 text (λ i. (c.type_inv.text i).fits)) c.front_word-worth.ensures refl c.if-count-eq0.false c.wrapping_shl.ensures c.eight_value-2.ensures
    ∙ sym (ap (digits_value 10) (fewer _ text (few_zeros (marked c.front_word-worth.result))))
