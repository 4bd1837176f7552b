use Rattle.std.proofs.Common.{FitsSigned, w64, ◌∙◌, refl, sym, true≢false}
use Rattle.std.proofs.lemmas.Int.{to_z-of_z}
use Rattle.jiff.proofs.SpanFacts.{date_add-years}
use Rattle.vortex_literals.proofs.Moving.{can_add-years}
use Rattle.vortex_literals.proofs.intervals.years_later.Goals as goal

pub returns-in-Ok : goal.returns-in-Ok
returns-in-Ok c =
    let f8 : FitsSigned w64 c.args.count = c.ranges.count in
    let only = simp to_z-of_z at c.years.ensures in
    let can = can_add-years c.args.date c.args.count c.years.result only in
    let s = c.in-Ok.ensures.succeeds in
    (can.0 (s.0 refl), c.in-Ok.ensures.value ∙ date_add-years c.args.date c.args.count c.years.result only)

pub returns-in-Err : goal.returns-in-Err
returns-in-Err c = λ h.
    let f8 : FitsSigned w64 c.args.count = c.ranges.count in
    let only = simp to_z-of_z at c.years.ensures in
    let can = can_add-years c.args.date c.args.count c.years.result only in
    true≢false (sym (c.in-Err.ensures.succeeds.1 (can.1 h)))
