-- The comparison of each end of a range.
use Rattle.vortex_expr.specs.declared.scalar_fn.Operator.{Operator}
use Rattle.vortex_expr.specs.declared.scalar_fn.Operator.TheVariants.{Lt, Lte}
use Rattle.vortex_expr.specs.declared.scalar_fn.StrictComparison.{StrictComparison}
use Rattle.vortex_expr.specs.declared.scalar_fn.StrictComparison.TheVariants.{Strict, NonStrict}

-- how the lesser compares with the greater
abbrev pub to_operator : StrictComparison → Operator
to_operator Strict = Lt
to_operator NonStrict = Lte
