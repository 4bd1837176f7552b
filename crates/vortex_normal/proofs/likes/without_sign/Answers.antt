use Rattle.std.specs.Str.{chars}
use Rattle.vortex_normal.proofs.Readings.{no_sign_at_end}
use Rattle.vortex_normal.proofs.likes.without_sign.Goals as goal

pub returns-else-last-eq37-clause-split : goal.returns-else-last-eq37-clause-split
returns-else-last-eq37-clause-split c = no_sign_at_end (chars c.args.text.now) (chars c.in-Some.front.now) c.in-Some.last c.in-Some.ensures.split c.if-last-eq37.false
