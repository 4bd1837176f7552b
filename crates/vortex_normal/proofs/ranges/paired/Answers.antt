use Rattle.std.proofs.Common.{◌∙◌}
use Rattle.vortex_expr.specs.Trees.Connectives.{is_and}
use Rattle.vortex_normal.specs.Intervals.{set_of}
use Rattle.vortex_normal.proofs.Absorbed.{turned}
use Rattle.vortex_normal.proofs.ranges.paired.Goals as goal

pub returns-in_ok-absorb : goal.returns-in_ok-absorb
returns-in_ok-absorb c = c.in_ok-absorb.ensures ∙ turned (is_and c.args.connective) (set_of c.args.set) (set_of c.args.other) c.requires.set c.requires.other
