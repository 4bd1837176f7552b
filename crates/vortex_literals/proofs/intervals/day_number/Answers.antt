use Rattle.std.proofs.Common.{arith}
use Rattle.jiff_core.proofs.SignedLemmas.{signed_casts}
use Rattle.vortex_literals.proofs.Moving.{midnight_parts}
use Rattle.vortex_literals.proofs.intervals.day_number.Goals as goal
use Rattle.vortex_literals.proofs.intervals.day_number.Goals.{then-number-ne0-via-then-number-ne0, then-number-ne0-via-else-number-ne0+then-rem_euclid-ne0}

pub returns-then-number-ne0 : goal.returns-then-number-ne0
returns-then-number-ne0 c = λ n h.
    let p = midnight_parts c.args.number n h.1 in
    elim c.then-number-ne0.branch [
      | then-number-ne0-via-then-number-ne0 w ↦ w.if-number-ne0.true p.0
      | then-number-ne0-via-else-number-ne0+then-rem_euclid-ne0 w ↦
          w.if-rem_euclid-ne0.true (omega (arith, signed_casts, p.1, h.0, w.rem_euclid.ensures.value))
    ]
