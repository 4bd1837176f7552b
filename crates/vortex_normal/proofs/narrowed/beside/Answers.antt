use Rattle.std.proofs.Common.{Bor, map, sym}
use Rattle.vortex_expr.specs.declared.bound_expression.BoundExpression.{BoundExpression}
use Rattle.vortex_normal.specs.Narrowed.{fact_column}
use Rattle.vortex_normal.proofs.Narrowing.{known_is_predicate}
use Rattle.vortex_normal.proofs.narrowed.beside.Goals as goal

pub copied-requires-in-Some : goal.copied-requires-in-Some
copied-requires-in-Some c =
    known_is_predicate (map (λ (f : Bor BoundExpression). f.now) c.args.known.now) (fact_column c.args.leaf.now) c.in-Some.fact.now c.dtype-typed.result (sym c.in-Some.ensures) c.dtype-typed.ensures
