-- Which proof of a rule is asked for.
use Rattle.std.specs.Prelude.{Option}
use Rattle.vortex_expr.specs.Trees.Tree.{Tree, Place}
use Rattle.vortex_rewrite.specs.Rewriting.Lawful.{OwnRule}
use Rattle.vortex_rewrite.specs.declared.rewrite.side.Side.{Side}
use Rattle.vortex_rewrite.specs.declared.rewrite.side.Side.TheVariants.{Falsify, Satisfy}

abbrev pub proof_of : Side → OwnRule → Tree Place → Option (Tree Place)
proof_of Falsify = λ rule. rule.falsifier
proof_of Satisfy = λ rule. rule.satisfier
