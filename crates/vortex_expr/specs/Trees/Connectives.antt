-- What joins the predicates of a chain.
use Rattle.std.specs.Prelude.{Bool, true, false, not}
use Rattle.vortex_expr.specs.declared.scalar_fn.Connective.{Connective}
use Rattle.vortex_expr.specs.declared.scalar_fn.Connective.TheVariants as connective
use Rattle.vortex_expr.specs.declared.scalar_fn.Operator.{Operator}
use Rattle.vortex_expr.specs.declared.scalar_fn.Operator.TheVariants.{And, Or}

-- AND, or else OR; this is the truth that it adds nothing to as well
abbrev pub is_and : Connective → Bool
is_and connective.And = true
is_and connective.Or = false

abbrev pub operator_of : (is_and : Bool) → Operator
operator_of true = And
operator_of false = Or

-- what joins the tests of two predicates' operands for the whole to have a truth: the same for true, and the other one for false
abbrev pub for_truth : (is_and : Bool) → (wanted : Bool) → Bool
for_truth true w = w
for_truth false w = not w
