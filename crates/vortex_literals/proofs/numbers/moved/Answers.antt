use Rattle.std.proofs.Common.{arith, subst, Option, ◌-◌, ◌^◌}
use Rattle.vortex_logical.specs.Meaning.{Fraction}
use Rattle.vortex_literals.specs.Numbers.{IsRead}
use Rattle.vortex_literals.proofs.Capping.{moved_up, moved_down}
use Rattle.vortex_literals.proofs.numbers.moved.Goals as goal

pub returns-then-negative : goal.returns-then-negative
returns-then-negative c = λ d e p q.
    let P : Option Fraction → Type 0 = λ z. IsRead z c.scaled.result in
    subst P (moved_down (2 ^ 128 - 1) c.args.digits c.args.exponent c.args.behind c.saturating_add.result d e c.args.negative c.if-negative.true (omega arith) p q c.saturating_add.ensures) c.scaled.ensures

pub returns : goal.returns
returns c = λ d e p q.
    let P : Option Fraction → Type 0 = λ z. IsRead z c.scaled-2.result in
    subst P (moved_up (2 ^ 128 - 1) c.args.digits c.args.exponent c.args.behind d e c.args.negative c.if-negative.false (omega arith) (omega (arith, c.ranges.behind.fits)) p q) c.scaled-2.ensures
