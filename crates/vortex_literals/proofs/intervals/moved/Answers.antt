use Rattle.std.proofs.Common.{arith, subst, FitsSigned, w64}
use Rattle.std.proofs.lemmas.Int.{to_z-of_z}
use Rattle.vortex_literals.specs.Intervals.{CanMove}
use Rattle.vortex_literals.specs.declared.intervals.IntervalUnit.{IntervalUnit}
use Rattle.vortex_literals.proofs.Moving.{few_days, few_years}
use Rattle.vortex_literals.proofs.intervals.moved.Goals as goal
use Rattle.vortex_literals.proofs.intervals.moved.Goals.{in_default-via-in-Day+else-size-le7304484, in_default-via-in-Month+else-size-le239976, in_default-via-in-Year+else-size-le19998}

pub returns-in_default : goal.returns-in_default
returns-in_default c = λ h.
    let P : IntervalUnit → Type 0 = λ u. CanMove u c.args.date c.args.count in
    let fits : FitsSigned w64 c.args.count = c.ranges.count in
    let s = simp to_z-of_z at c.unsigned_abs-size.ensures.value in
    elim c.in_default.branch [
      | in_default-via-in-Day+else-size-le7304484 w ↦
          let k = few_days c.args.date c.args.count (subst P w.in-Day.is h) in
          omega (arith, k, s, w.if-size-le7304484.false)
      | in_default-via-in-Month+else-size-le239976 w ↦
          let k = (subst P w.in-Month.is h).0 in
          omega (arith, k, s, w.if-size-le239976.false)
      | in_default-via-in-Year+else-size-le19998 w ↦
          let k = few_years c.args.date c.args.count (subst P w.in-Year.is h) in
          omega (arith, k, s, w.if-size-le19998.false)
    ]
