use Rattle.std.proofs.Common.{Bor}
use Rattle.vortex_expr.specs.Trees.Tree.{Place, Tree}
use Rattle.vortex_expr.specs.declared.bound_expression.BoundExpression.{BoundExpression}
use Rattle.vortex_normal.specs.Narrowed.{facts}
use Rattle.vortex_normal.proofs.Narrowing.{taken_joined}
use Rattle.vortex_normal.proofs.narrowed.joined_facts.Goals as goal

abbrev lent : Bor BoundExpression → Tree Place
lent e = e.now

pub returns : goal.returns
returns c =
    taken_joined lent 32 c.new-facts.result.items c.push_facts.new.facts.items c.extend_from_slice.new.self.items c.truncate.new.self.items c.args.known.now (facts c.args.e.now)
    c.new-facts.ensures.items c.in_ok-push_facts.ensures c.in_ok-extend_from_slice.ensures.items c.truncate.ensures.items
