use Rattle.std.proofs.Common.{sym, ◌∙◌, arith}
use Rattle.std.proofs.lemmas.Bool.Decides.{nat_tests}
use Rattle.vortex_syntax.proofs.NumberLemmas.{natural_more, natural_stops, natural_whole}
use Rattle.vortex_syntax.proofs.number.natural_of.Goals as goal

pub returns-in_default : goal.returns-in_default
returns-in_default c =
    sym (natural_stops c.args.digits.now c.loop-digit.digit-index c.loop-digit.number c.loop-digit-test.true c.loop-digit.invariant.value (sym c.with_digit.ensures ∙ c.in_default.is))

pub loop-digit-preserved : goal.loop-digit-preserved
loop-digit-preserved c =
    let more = natural_more c.args.digits.now c.loop-digit.digit-index c.loop-digit.number c.in-Some.longer c.loop-digit-test.true c.loop-digit.invariant.digits c.loop-digit.invariant.value (sym c.with_digit.ensures ∙ c.in-Some.is) in
    record { digits = more.0; value = more.1; small = more.2 }

pub returns : goal.returns
returns c = natural_whole c.args.digits.now c.loop-digit.digit-index c.loop-digit.number (omega arith) (grind (arith, nat_tests)) c.loop-digit.invariant.small c.loop-digit.invariant.digits c.loop-digit.invariant.value
