use Rattle.std.proofs.Common.{◌≡◌, get_or, rules, w64, sym, arith}
use Rattle.std.proofs.Math.Facts.{to_z-of_z}
use borrow.Author.Differences.{ints}
use mir.Val.{of_z, to_z}
use Rattle.vortex_syntax.proofs.PlainLemmas.{signed_down}
use Rattle.vortex_syntax.proofs.plain.signed.Goals as goal

pub returns-in_ok-negated-in-45-clause-digits : goal.returns-in_ok-negated-in-45-clause-digits
returns-in_ok-negated-in-45-clause-digits c =
    let first : get_or c.args.text.now 0 0 ≡ 45 = omega arith in
    let same : to_z w64 (of_z w64 c.in_ok-negated-in-45.field-0) ≡ c.in_ok-negated-in-45.field-0 = search (rules, ints, to_z-of_z) in
    rw same (signed_down c.args.text.now c.in_ok-size-in-45.rest.now c.in_ok-size-in-45.size _ (omega arith) first c.in_ok-size-in-45.ensures.digits (sym c.in_ok-negated-in-45.ensures))
