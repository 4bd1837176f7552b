use Rattle.std.proofs.Common.{arith}
use Rattle.itoa.proofs.Decimal.{length_four}
use Rattle.vortex_text.proofs.PageLemmas.{few_decimals}
use Rattle.vortex_text.proofs.page.count_digits.Goals as goal

pub overflow_add-count : goal.overflow_add-count
overflow_add-count c = omega (arith, few_decimals c.args.number c.ranges.number.fits)

pub loop-left-preserved : goal.loop-left-preserved
loop-left-preserved c = omega (arith, length_four c.loop-left.left c.loop-left-test.true c.loop-left.auto.left-fits.fits)

pub overflow_add-result : goal.overflow_add-result
overflow_add-result c = omega (arith, few_decimals c.args.number c.ranges.number.fits)

pub returns-clause-few : goal.returns-clause-few
returns-clause-few c = omega (arith, few_decimals c.args.number c.ranges.number.fits)
