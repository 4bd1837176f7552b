use Rattle.std.proofs.Common.{refl, sym, arith}
use Rattle.vortex_syntax.proofs.DigitLemmas.{digit_at, other_at}
use Rattle.vortex_syntax.proofs.value.digit_or_16.Goals as goal

pub returns-clause-digit : goal.returns-clause-digit
returns-clause-digit c low = rw c.from.ensures (digit_at _ c.args.byte refl (omega (arith, c.ranges.byte.fits)) (rw (sym c.from.ensures) low))

pub returns-clause-other : goal.returns-clause-other
returns-clause-other c high = other_at _ c.args.byte refl (omega (arith, c.ranges.byte.fits)) (rw (sym c.from.ensures) high)
