use Rattle.std.proofs.Common.{◌≡◌, ◌∙◌, refl, sym, ap, subst, true≢false, w64, to_z, of_z, ℤ}
use Rattle.std.proofs.lemmas.Int.{to_z-of_z}
use Rattle.jiff.specs.Words.{epoch_day}
use Rattle.vortex_literals.specs.Dates.{IsMidnight}
use Rattle.vortex_literals.specs.Intervals.{CanMove, moved}
use Rattle.vortex_literals.proofs.Moving.{can_move_same, one_day}
use Rattle.vortex_literals.proofs.intervals.later.Goals as goal

pub returns-in-Some-moved-clause-told : goal.returns-in-Some-moved-clause-told
returns-in-Some-moved-clause-told c =
    let e : to_z w64 (of_z w64 c.args.count) ≡ c.args.count = to_z-of_z w64 _ c.ranges.count in
    let P : ℤ → Type 0 = λ z. CanMove c.args.unit c.in-Some.day z in
    (λ _. (c.in-Some.day, (c.in-Some.ensures, subst P e c.in-Some-moved.ensures.0)), λ _. refl)

pub returns-in-Some-moved-clause-value : goal.returns-in-Some-moved-clause-value
returns-in-Some-moved-clause-value c =
    let e : to_z w64 (of_z w64 c.args.count) ≡ c.args.count = to_z-of_z w64 _ c.ranges.count in
    let Q : ℤ → Type 0 = λ z. IsMidnight z c.midnight.result in
    (c.in-Some.day, (c.in-Some.ensures, subst Q (c.in-Some-moved.ensures.1 ∙ ap (moved c.args.unit c.in-Some.day) e) c.midnight.ensures))

pub returns-in-None-moved-clause-told : goal.returns-in-None-moved-clause-told
returns-in-None-moved-clause-told c =
    let e : to_z w64 (of_z w64 c.args.count) ≡ c.args.count = to_z-of_z w64 _ c.ranges.count in
    let P : ℤ → Type 0 = λ z. CanMove c.args.unit c.in-Some.day z in (
      λ no. absurd (true≢false (sym no)),
      λ q. absurd (c.in-None-moved.ensures (subst P (sym e)
          (can_move_same c.args.unit q.0 c.in-Some.day c.args.count (one_day c.args.number (epoch_day q.0) (epoch_day c.in-Some.day) q.1.0 c.in-Some.ensures) q.1.1))),
    )
