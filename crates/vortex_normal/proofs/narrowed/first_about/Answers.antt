use Rattle.std.proofs.Common.{Bor, sym}
use Rattle.vortex_expr.specs.Trees.Tree.{Place, Tree}
use Rattle.vortex_expr.specs.declared.bound_expression.BoundExpression.{BoundExpression}
use Rattle.vortex_normal.specs.Narrowed.{is_about}
use Rattle.vortex_normal.proofs.Narrowing.{found_here, found_nowhere}
use Rattle.vortex_normal.proofs.narrowed.first_about.Goals as goal

abbrev lent : Bor BoundExpression → Tree Place
lent e = e.now

pub returns-in-Some : goal.returns-in-Some
returns-in-Some c =
    found_here lent (is_about c.args.column.now) c.args.known.now c.in-Some.place c.index-known-place.result (sym c.in-Some.ensures.value) c.in-Some.ensures.in_range (sym c.index-known-place.is)

pub returns-in-None : goal.returns-in-None
returns-in-None c = found_nowhere lent (is_about c.args.column.now) c.args.known.now (sym c.in-None.ensures.value)
