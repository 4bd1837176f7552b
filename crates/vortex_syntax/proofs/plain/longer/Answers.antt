use Rattle.std.proofs.Common.{◌≡◌, ◌≤◌, true, get_or, sym, ◌∙◌, arith}
use Rattle.std.proofs.lemmas.Bool.Decides.{nat_tests}
use Rattle.std.specs.Char.{is_ascii_digit}
use Rattle.vortex_syntax.proofs.PlainLemmas.{digits_eight, digits_more, eight_short}
use Rattle.vortex_syntax.proofs.plain.longer.Goals as goal
use Rattle.vortex_syntax.proofs.plain.longer.Goals.{in_default, in-len8-up+then-number-le-MOST_BEFORE_EIGHT+then-count-eq8, in-len8-up+then-number-le-MOST_BEFORE_EIGHT+else-count-eq8, in-len8-up+else-number-le-MOST_BEFORE_EIGHT}

pub overflow_add-number : goal.overflow_add-number
overflow_add-number c =
    let eight = c.if-count-eq8.true in
    omega (arith, eight_short c.args.text.now c.front_digits-count.result.1 (rw eight at c.front_digits-count.ensures.digits) (rw eight at c.front_digits-count.ensures.number))

pub digits-init : goal.digits-init
digits-init c = elim c.if-rest-lt8.branch [
  | in_default w ↦ rw (w.number-is, w.rest-is) record { read = λ whole begun. begun; no_longer = omega arith }
  | in-len8-up+then-number-le-MOST_BEFORE_EIGHT+then-count-eq8 w ↦ (let eight = w.if-count-eq8.true in rw (w.number-is, w.rest-is) record {
    read = λ whole begun. digits_eight whole c.args.text.now c.args.so_far w.front_digits-count.result.1 begun (omega arith) (rw eight at w.front_digits-count.ensures.digits) (rw eight at w.front_digits-count.ensures.number);
    no_longer = grind arith;
  })
  | in-len8-up+then-number-le-MOST_BEFORE_EIGHT+else-count-eq8 w ↦ rw (w.number-is, w.rest-is) record { read = λ whole begun. begun; no_longer = omega arith }
  | in-len8-up+else-number-le-MOST_BEFORE_EIGHT w ↦ rw (w.number-is, w.rest-is) record { read = λ whole begun. begun; no_longer = omega arith }
]

pub digits-preserved : goal.digits-preserved
digits-preserved c =
    let digit : is_ascii_digit (get_or c.digits.rest.now 0 0) ≡ true = sym c.is_ascii_digit.ensures.value ∙ c.if-not-is_ascii_digit.false in
    let high : get_or c.digits.rest.now 0 0 ≤ 57 = grind (arith, nat_tests, digit) in
    record {
      read = λ whole begun. digits_more whole c.digits.rest.now c.digits.number c.from.result (c.digits.invariant.read whole begun) (omega arith) digit (omega (arith, c.from.ensures));
      no_longer = grind arith;
    }
