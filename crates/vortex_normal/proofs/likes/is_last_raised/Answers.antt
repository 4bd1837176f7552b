use Rattle.std.proofs.Common.{ap, sym, ◌∙◌}
use Rattle.std.specs.Str.{chars}
use Rattle.vortex_normal.specs.Pushed.{is_last_raised}
use Rattle.vortex_normal.proofs.Readings.{last_raised}
use Rattle.vortex_normal.proofs.likes.is_last_raised.Goals as goal

pub returns-in-Some : goal.returns-in-Some
returns-in-Some c = c.has_next.ensures ∙ sym (ap is_last_raised c.in-Some.ensures.split ∙ last_raised (chars c.in-Some.field-0-1.now) c.in-Some.last)
