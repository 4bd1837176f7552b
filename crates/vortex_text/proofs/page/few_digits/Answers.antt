use Rattle.std.proofs.Common.{sym}
use Rattle.itoa.proofs.Decimal.{length_one, length_two}
use Rattle.vortex_text.proofs.PageLemmas.{digits_four, digits_three}
use Rattle.vortex_text.proofs.page.few_digits.Goals as goal

pub returns-then-number-lt10 : goal.returns-then-number-lt10
returns-then-number-lt10 c = sym (length_one c.args.number c.if-number-lt10.true)

pub returns-else-number-lt10 : goal.returns-else-number-lt10
returns-else-number-lt10 c = sym (length_two c.args.number c.if-number-lt10.false c.if-number-lt100.true)

pub returns-then-number-lt1000 : goal.returns-then-number-lt1000
returns-then-number-lt1000 c = sym (digits_three c.args.number c.if-number-lt100.false c.if-number-lt1000.true)

pub returns-else-number-lt1000 : goal.returns-else-number-lt1000
returns-else-number-lt1000 c = sym (digits_four c.args.number c.if-number-lt1000.false c.requires)
