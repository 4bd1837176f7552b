-- What the binders of the tests answer that answer alike wherever they are asked.
use Rattle.std.specs.Prelude.{true, Option, Some, None}
use Rattle.vortex_base.specs.declared.aggregate.AggregateFnRef.{AggregateFnRef}
use Rattle.vortex_base.specs.declared.aggregate.AggregateFnRef.TheVariants.{Min}
use Rattle.vortex_expr.specs.Trees.Tree.{Tree, Place, stat as placeholder}
use Rattle.vortex_rewrite.specs.Rewriting.Falsifiers.{bool_literal}
use Rattle.vortex_testing.specs.declared.binders.Answerer.{Answerer}
use Rattle.vortex_testing.specs.declared.binders.Answerer.TheVariants as answerer

-- what a binder stands in for a placeholder
abbrev pub answered : Answerer → AggregateFnRef → Tree Place → Option (Tree Place)
answered answerer.Itself f x = Some (placeholder f x)
answered answerer.Least f x = Some (placeholder Min x)
answered answerer.Input f x = Some x
answered answerer.Truth f x = Some (bool_literal true)
answered a f x = None
