-- Worked rows of expressions with more than one fault: which comes first at each node, where an expression is typed and where it is bound.
use Rattle.std.proofs.Common.{refl}
use Rattle.std.specs.Prelude.{◌≡◌, true, List, [], ◌∷◌, Result, Err, None, map}
use Rattle.vortex_base.specs.declared.dtype.DType.{DType}
use Rattle.vortex_base.specs.declared.error.BaseError.{BaseError}
use Rattle.vortex_base.specs.declared.error.BaseError.TheVariants.{Mismatch, TypeFault, UnknownColumn, Unsupported}
use Rattle.vortex_expr.specs.declared.scalar_fn.Operator.TheVariants as operator
use Rattle.vortex_base.specs.declared.aggregate.AggregateFnRef.TheVariants as aggregate
use Rattle.vortex_expr.specs.Meanings.Binding.{Name, type_in}
use Rattle.vortex_expr.specs.Meanings.Typing.{type_of}
use Rattle.vortex_expr.specs.Patterns.Like.{plain}
use Rattle.vortex_expr.specs.Trees.Tree.{Tree, Place, literal, binary, between, is_null, is_not_null, not, like, stat}
use Rattle.vortex_base.specs.Worked.Examples.{column_a, i32_type, state_type}
use Rattle.vortex_expr.specs.Worked.ExpressionExamples.{a, bool_type, closed_ends, int, of_type, open_lower, open_upper, z}

abbrev Answer : Type 0
Answer = Result DType BaseError

-- three expressions, each with a fault of its own: null under a type that has none, an aggregate that no type supports, NOT of a number
abbrev misfit : Tree Place
misfit = literal (record { dtype = bool_type; value = None })

abbrev unsupported : Tree Place
unsupported = stat aggregate.NanCount (of_type i32_type)

abbrev mistyped : Tree Place
mistyped = not (of_type i32_type)

own_faults : map type_of (misfit ∷ unsupported ∷ mistyped ∷ []) ≡ Err Mismatch ∷ Err Unsupported ∷ Err TypeFault ∷ []
own_faults = refl

-- ---- two operands: the left's fault alone, the right's alone, both either way round; a fault of an operand beside one of a type that the node refuses

abbrev both_ways : (Tree Place → Tree Place → Tree Place) → List Answer
both_ways node = map type_of (node misfit (of_type bool_type) ∷ node (of_type bool_type) misfit
    ∷ node misfit unsupported ∷ node unsupported misfit ∷ node mistyped unsupported ∷ node unsupported mistyped
    ∷ node (of_type state_type) unsupported ∷ node unsupported (of_type state_type) ∷ [])

abbrev left_first : List Answer
left_first = Err Mismatch ∷ Err Mismatch ∷ Err Mismatch ∷ Err Unsupported ∷ Err TypeFault ∷ Err Unsupported ∷ Err Unsupported ∷ Err Unsupported ∷ []

eq_faults : both_ways (binary operator.Eq) ≡ left_first
eq_faults = refl

not_eq_faults : both_ways (binary operator.NotEq) ≡ left_first
not_eq_faults = refl

gt_faults : both_ways (binary operator.Gt) ≡ left_first
gt_faults = refl

gt_eq_faults : both_ways (binary operator.Gte) ≡ left_first
gt_eq_faults = refl

lt_faults : both_ways (binary operator.Lt) ≡ left_first
lt_faults = refl

lt_eq_faults : both_ways (binary operator.Lte) ≡ left_first
lt_eq_faults = refl

and_faults : both_ways (binary operator.And) ≡ left_first
and_faults = refl

or_faults : both_ways (binary operator.Or) ≡ left_first
or_faults = refl

like_faults : both_ways (like plain) ≡ left_first
like_faults = refl

other_like_faults : both_ways (like (record { negated = true; case_insensitive = true })) ≡ left_first
other_like_faults = refl

-- ---- ranges: the operand's fault alone, the lower end's, the upper end's; two of them; all three, in each order; and beside a type that the node refuses

abbrev n : Tree Place
n = of_type i32_type

abbrev ranges : (Tree Place → Tree Place → Tree Place → Tree Place) → List Answer
ranges node = map type_of (node misfit n n ∷ node n misfit n ∷ node n n misfit
    ∷ node misfit unsupported n ∷ node unsupported misfit n ∷ node misfit n unsupported ∷ node unsupported n misfit ∷ node n misfit unsupported ∷ node n unsupported misfit
    ∷ node misfit unsupported mistyped ∷ node misfit mistyped unsupported ∷ node unsupported misfit mistyped
    ∷ node unsupported mistyped misfit ∷ node mistyped misfit unsupported ∷ node mistyped unsupported misfit
    ∷ node (of_type state_type) n unsupported ∷ node (of_type state_type) unsupported n ∷ node unsupported (of_type state_type) n ∷ [])

abbrev operand_first : List Answer
operand_first = Err Mismatch ∷ Err Mismatch ∷ Err Mismatch
    ∷ Err Mismatch ∷ Err Unsupported ∷ Err Mismatch ∷ Err Unsupported ∷ Err Mismatch ∷ Err Unsupported
    ∷ Err Mismatch ∷ Err Mismatch ∷ Err Unsupported
    ∷ Err Unsupported ∷ Err TypeFault ∷ Err TypeFault
    ∷ Err Unsupported ∷ Err Unsupported ∷ Err Unsupported ∷ []

range_faults : ranges (between closed_ends) ≡ operand_first
range_faults = refl

open_range_faults : ranges (between open_lower) ∷ ranges (between open_upper) ∷ [] ≡ operand_first ∷ operand_first ∷ []
open_range_faults = refl

-- ---- one operand: its fault is the node's

one_operand : map type_of (is_null misfit ∷ is_not_null misfit ∷ not misfit ∷ not unsupported ∷ stat aggregate.Max misfit ∷ stat aggregate.NanCount misfit ∷ [])
    ≡ Err Mismatch ∷ Err Mismatch ∷ Err Mismatch ∷ Err Unsupported ∷ Err Mismatch ∷ Err Mismatch ∷ []
one_operand = refl

-- ---- the same where names are bound: an unknown column, here `z`, is a fault of its place

abbrev bound : List (Tree Name) → List Answer
bound es = map (type_in (column_a ∷ [])) es

abbrev faulty : Tree Name
faulty = not a

abbrev named_both_ways : (Tree Name → Tree Name → Tree Name) → List Answer
named_both_ways node = bound (node z a ∷ node a z ∷ node z faulty ∷ node faulty z ∷ [])

abbrev named_left_first : List Answer
named_left_first = Err UnknownColumn ∷ Err UnknownColumn ∷ Err UnknownColumn ∷ Err TypeFault ∷ []

named_or : named_both_ways (binary operator.Or) ≡ named_left_first
named_or = refl

named_and : named_both_ways (binary operator.And) ≡ named_left_first
named_and = refl

named_eq : named_both_ways (binary operator.Eq) ≡ named_left_first
named_eq = refl

named_like : named_both_ways (like plain) ≡ named_left_first
named_like = refl

named_range : bound (between closed_ends z faulty (int 1) ∷ between closed_ends faulty z (int 1) ∷ between closed_ends z (int 1) faulty
    ∷ between closed_ends faulty (int 1) z ∷ between closed_ends (int 1) z faulty ∷ between closed_ends (int 1) faulty z ∷ [])
    ≡ Err UnknownColumn ∷ Err TypeFault ∷ Err UnknownColumn ∷ Err TypeFault ∷ Err UnknownColumn ∷ Err TypeFault ∷ []
named_range = refl
