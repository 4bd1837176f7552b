-- The built-in proofs of one node, and the functions that the built-in rules are for.
use Rattle.std.specs.Prelude.{List, [], ◌∷◌, Option, Some, None, option_to_list, if◌then◌else◌}
use Rattle.std.specs.Ordering.{is_gt}
use Rattle.vortex_expr.specs.declared.scalar_fn.BetweenOptions.{BetweenOptions}
use Rattle.vortex_expr.specs.declared.scalar_fn.StrictComparison.{StrictComparison}
use Rattle.vortex_expr.specs.declared.scalar_fn.StrictComparison.TheVariants.{Strict, NonStrict}
use Rattle.vortex_expr.specs.declared.scalar_fn.Operator.{Operator}
use Rattle.vortex_expr.specs.declared.scalar_fn.Operator.TheVariants.{Eq, NotEq, Gt, Gte, Lt, Lte, And, Or}
use Rattle.vortex_base.specs.declared.pvalue.PValue.{PValue}
use Rattle.vortex_expr.specs.declared.scalar_fn.ScalarFnId.{ScalarFnId}
use Rattle.vortex_expr.specs.declared.scalar_fn.ScalarFnId.TheVariants as function
use Rattle.vortex_base.specs.Data.Neighbours.{next_number, prev_number}
use Rattle.vortex_base.specs.Data.Orders.{pvalue_cmp}
use Rattle.vortex_expr.specs.Trees.Tree.{Tree, Place}
use Rattle.vortex_rewrite.specs.Rewriting.Falsifiers.{Ends}
use Rattle.vortex_rewrite.specs.declared.rewrite.rules.BuiltinRule.{BuiltinRule}
use Rattle.vortex_rewrite.specs.declared.rewrite.rules.BuiltinRule.TheVariants as rule

-- the neighbours that strict ends stand for, if their types have them
abbrev pub raised_end : StrictComparison → PValue → Option PValue
raised_end Strict p = next_number p
raised_end NonStrict p = Some p

abbrev pub lowered_end : StrictComparison → PValue → Option PValue
lowered_end Strict p = prev_number p
lowered_end NonStrict p = Some p

abbrev pub ordered_ends : Option PValue → Option PValue → Option (PValue × PValue)
ordered_ends (Some p) (Some q) = if is_gt (pvalue_cmp p q) then None else Some (p, q)
ordered_ends (Some p) None = None
ordered_ends None q = None

-- the parts of ends
abbrev pub ends_from : BetweenOptions × Tree Place × Tree Place → Ends
ends_from e = record { options = e.0; lower = e.1; upper = e.2 }

-- the proofs that are there, of two
abbrev pub listed : Option (Tree Place) → Option (Tree Place) → List (Tree Place)
listed p None = option_to_list p
listed None (Some q) = q ∷ []
listed (Some p) (Some q) = p ∷ q ∷ []

-- the comparison that holds of two values where this one doesn't; a connective stays
abbrev pub opposite : Operator → Operator
opposite Eq = NotEq
opposite NotEq = Eq
opposite Gt = Lte
opposite Gte = Lt
opposite Lt = Gte
opposite Lte = Gt
opposite And = And
opposite Or = Or

-- the function whose nodes a rule is for
abbrev pub function_of : BuiltinRule → ScalarFnId
function_of rule.LiteralStatsRewrite = function.Literal
function_of rule.BinaryNanCountStatsRewrite = function.Binary
function_of rule.BetweenStatsRewrite = function.Between
function_of rule.IsNullNullCountStatsRewrite = function.IsNull
function_of rule.IsNullAllNonNullStatsRewrite = function.IsNull
function_of rule.IsNullAllNullStatsRewrite = function.IsNull
function_of rule.IsNotNullNullCountStatsRewrite = function.IsNotNull
function_of rule.IsNotNullAllNullStatsRewrite = function.IsNotNull
function_of rule.IsNotNullAllNonNullStatsRewrite = function.IsNotNull
function_of rule.LikeStatsRewrite = function.Like
