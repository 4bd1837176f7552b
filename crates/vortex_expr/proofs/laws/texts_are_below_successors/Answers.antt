use Rattle.std.specs.Str.{chars}
use Rattle.vortex_expr.proofs.Patterns.Successors.{are-below-successor}
use Rattle.vortex_expr.proofs.laws.texts_are_below_successors.Goals as goal

pub returns : goal.returns
returns c = are-below-successor (chars c.args.beginning.now)
