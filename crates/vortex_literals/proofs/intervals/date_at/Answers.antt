use Rattle.std.proofs.Common.{FitsSigned, w64, ◌≡◌, ◌∙◌, sym, subst, true≢false, ℤ, pos, ◌+ℤ◌, arith}
use Rattle.std.proofs.lemmas.Int.{to_z-of_z, ints}
use Rattle.jiff.proofs.SpanFacts.{can_add-days, date_add-days}
use Rattle.jiff.specs.Words.{epoch_day, IsEpochDay}
use Rattle.vortex_literals.proofs.FirstDay.{first_day}
use Rattle.vortex_literals.proofs.intervals.date_at.Goals as goal

from_first : (a n : ℤ) → a ≡ pos 0 → a +ℤ n ≡ n
from_first a n h = omega (arith, ints)

pub returns-in-Ok : goal.returns-in-Ok
returns-in-Ok c =
    let f8 : FitsSigned w64 c.args.number = c.ranges.number in
    let only = simp to_z-of_z at c.days.ensures in
    let e = c.date.ensures in
    c.in-Ok.ensures.value ∙ date_add-days c.date.result c.args.number c.days.result only
    ∙ from_first (epoch_day c.date.result) c.args.number (first_day _ _ _ e.0 e.1 e.2)

pub returns-in-Err : goal.returns-in-Err
returns-in-Err c =
    let f8 : FitsSigned w64 c.args.number = c.ranges.number in
    let only = simp to_z-of_z at c.days.ensures in
    let e = c.date.ensures in
    let can = can_add-days c.date.result c.args.number c.days.result only in
    let back = from_first (epoch_day c.date.result) c.args.number (first_day _ _ _ e.0 e.1 e.2) in
    true≢false (sym (c.in-Err.ensures.succeeds.1 (can.1 (subst IsEpochDay (sym back) c.requires))))
