-- The tables of rewriting: which proofs the built-in rules have for a predicate, and how the proofs of a user's rules join them.
use Rattle.std.specs.Prelude.{ℕ, zero, suc, ◌+◌, ℤ, pos, ◌+ℤ◌, ◌-ℤ◌, int_le, ◌&&◌, ◌||◌, Bool, true, false, not as not_b, List, [], ◌∷◌, ◌++◌, length, Option, Some, None, option_map, option_to_list, is_none, encode_utf8_all, if◌then◌else◌}
use Rattle.std.specs.List.{filter_map}
use Rattle.std.specs.Ordering.{is_eq, is_gt}
use Rattle.std.specs.Result.{is_ok}
use Rattle.std.specs.Str.{chars}
use Rattle.vortex_base.specs.declared.aggregate.AggregateFnRef.{AggregateFnRef}
use Rattle.vortex_base.specs.declared.aggregate.AggregateFnRef.TheVariants.{Max, Min, NullCount, AllNull, AllNonNull}
use Rattle.std.specs.declared.cmp.Ordering.{Ordering}
use Rattle.vortex_expr.specs.declared.scalar_fn.BetweenOptions.{BetweenOptions}
use Rattle.vortex_expr.specs.declared.scalar_fn.StrictComparison.{StrictComparison}
use Rattle.vortex_expr.specs.declared.scalar_fn.StrictComparison.TheVariants.{Strict, NonStrict}
use Rattle.vortex_base.specs.declared.dtype.DType.TheVariants as dtype
use Rattle.vortex_expr.specs.declared.like.Item.{Item}
use Rattle.vortex_expr.specs.declared.like.LikeOptions.{LikeOptions}
use Rattle.vortex_base.specs.declared.types.Nullability.TheVariants.{NonNullable}
use Rattle.vortex_expr.specs.declared.scalar_fn.Operator.{Operator}
use Rattle.vortex_expr.specs.declared.scalar_fn.Operator.TheVariants.{Eq, NotEq, Gt, Gte, Lt, Lte, And, Or}
use Rattle.vortex_base.specs.declared.types.PType.TheVariants as ptype
use Rattle.vortex_base.specs.declared.pvalue.PValue.{PValue}
use Rattle.vortex_base.specs.declared.pvalue.PValue.TheVariants as number
use Rattle.vortex_expr.specs.declared.scalar_fn.ScalarFnId.{ScalarFnId}
use Rattle.vortex_base.specs.declared.scalar_value.ScalarValue.{ScalarValue}
use Rattle.vortex_base.specs.declared.scalar_value.ScalarValue.TheVariants as value
use Rattle.vortex_expr.specs.contracts.scalar_fn.ScalarFnIdPartialEq.TheImpl as functions
use Rattle.vortex_expr.specs.Trees.Between.{to_operator}
use Rattle.vortex_expr.specs.Patterns.Like.{items}
use Rattle.vortex_base.specs.Data.Neighbours.{resized}
use Rattle.vortex_expr.specs.Patterns.Prefix.{literal_prefix, is_exact, successor}
use Rattle.vortex_base.specs.Data.Scalars.{Constant}
use Rattle.vortex_expr.specs.Trees.Tree.{Tree, Place, column, literal, binary, between, is_null, is_not_null, not, like, stat, row_count, scalar_fn_of}
use Rattle.vortex_expr.specs.Meanings.Typing.{type_of}
use Rattle.vortex_base.specs.Data.Values.{number_of, value_cmp}
use Rattle.vortex_rewrite.specs.Rewriting.Lawful.{OwnRule}
use Rattle.vortex_rewrite.specs.Rewriting.Sides.{proof_of}
use Rattle.vortex_rewrite.specs.declared.rewrite.side.Side.{Side}
use Rattle.vortex_rewrite.specs.declared.rewrite.side.Side.TheVariants.{Falsify, Satisfy}

-- ---- the parts of proofs

abbrev pub bool_literal : Bool → Tree Place
bool_literal b = literal (record { dtype = dtype.Bool NonNullable; value = Some (value.Bool b) })

abbrev pub count_literal : ℕ → Tree Place
count_literal n = literal (record { dtype = dtype.Primitive ptype.U64 NonNullable; value = Some (value.Primitive (number.U64 n)) })

-- a text given by its bytes, and one given by its characters
abbrev pub bytes_literal : List ℕ → Tree Place
bytes_literal bs = literal (record { dtype = dtype.Utf8 NonNullable; value = Some (value.Utf8 bs) })

abbrev pub text_literal : List ℕ → Tree Place
text_literal cs = bytes_literal (encode_utf8_all cs)

abbrev pub text_of : Option ScalarValue → Option (List ℕ)
text_of (Some (value.Utf8 bs)) = Some bs
text_of v = None

-- the text that a literal is, by its bytes
abbrev pub text_in : Tree Place → Option (List ℕ)
text_in (literal c) = text_of c.value
text_in e = None

-- the placeholder, where the aggregate supports the input's type
abbrev pub placeholder : AggregateFnRef → Tree Place → Option (Tree Place)
placeholder f x = if is_ok (type_of (stat f x)) then Some (stat f x) else None

-- the least or the greatest value of an operand: of a literal the literal itself
abbrev pub extreme : AggregateFnRef → Tree Place → Option (Tree Place)
extreme f (literal c) = Some (literal c)
extreme f x = placeholder f x

abbrev pub min_of : Tree Place → Option (Tree Place)
min_of x = extreme Min x

abbrev pub max_of : Tree Place → Option (Tree Place)
max_of x = extreme Max x

-- the number of nulls: of a literal it is known
abbrev pub null_count_of : Tree Place → Tree Place
null_count_of (literal c) = count_literal (if is_none c.value then 1 else 0)
null_count_of x = stat NullCount x

-- what joins two proofs, where both are there
abbrev pub both_of : (Tree Place → Tree Place → Tree Place) → Option (Tree Place) → Option (Tree Place) → Option (Tree Place)
both_of join (Some a) (Some b) = Some (join a b)
both_of join (Some a) None = None
both_of join None b = None

-- what joins two proofs, and the one that is there where only one is
abbrev pub either_of : (Tree Place → Tree Place → Tree Place) → Option (Tree Place) → Option (Tree Place) → Option (Tree Place)
either_of join (Some a) (Some b) = Some (join a b)
either_of join (Some a) None = Some a
either_of join None b = b

-- ---- the tables of the built-in rules

-- that no row satisfies a comparison; the connectives have rows of their own
abbrev pub comparison_falsifier : Operator → (l r : Tree Place) → Option (Tree Place)
comparison_falsifier Eq l r = both_of (binary Or) (both_of (binary Gt) (min_of l) (max_of r)) (both_of (binary Gt) (min_of r) (max_of l))
comparison_falsifier NotEq l r = both_of (binary And) (both_of (binary Eq) (min_of l) (max_of r)) (both_of (binary Eq) (max_of l) (min_of r))
comparison_falsifier Gt l r = both_of (binary Lte) (max_of l) (min_of r)
comparison_falsifier Gte l r = both_of (binary Lt) (max_of l) (min_of r)
comparison_falsifier Lt l r = both_of (binary Gte) (min_of l) (max_of r)
comparison_falsifier Lte l r = both_of (binary Gt) (min_of l) (max_of r)
comparison_falsifier And l r = None
comparison_falsifier Or l r = None

-- that any two values of the operands compare so
abbrev pub value_condition : Operator → (l r : Tree Place) → Option (Tree Place)
value_condition Eq l r = both_of (binary And) (both_of (binary Eq) (min_of l) (max_of r)) (both_of (binary Eq) (max_of l) (min_of r))
value_condition NotEq l r = both_of (binary Or) (both_of (binary Gt) (min_of l) (max_of r)) (both_of (binary Gt) (min_of r) (max_of l))
value_condition Gt l r = both_of (binary Gt) (min_of l) (max_of r)
value_condition Gte l r = both_of (binary Gte) (min_of l) (max_of r)
value_condition Lt l r = both_of (binary Lt) (max_of l) (min_of r)
value_condition Lte l r = both_of (binary Lte) (max_of l) (min_of r)
value_condition And l r = None
value_condition Or l r = None

-- a proof, and that no value of an operand is null; a literal isn't asked, since it's compared itself
abbrev pub without_nulls : (x : Tree Place) → Tree Place → Tree Place
without_nulls (literal c) e = e
without_nulls x e = binary And e (stat AllNonNull x)

-- that every row satisfies a comparison: its values compare so, and neither operand is null
abbrev pub comparison_satisfier : Operator → (l r : Tree Place) → Option (Tree Place)
comparison_satisfier o l r = option_map (λ e. without_nulls r (without_nulls l e)) (value_condition o l r)

-- that no row satisfies a literal, and that every row does
abbrev pub literal_falsifier : Option ScalarValue → Option (Tree Place)
literal_falsifier (Some (value.Bool b)) = Some (bool_literal (not_b b))
literal_falsifier v = None

abbrev pub literal_satisfier : Option ScalarValue → Option (Tree Place)
literal_satisfier (Some (value.Bool b)) = Some (bool_literal b)
literal_satisfier v = None

-- that no row is null, and that every row is: two proofs each
abbrev pub none_null : Tree Place → List (Tree Place)
none_null x = binary Eq (null_count_of x) (count_literal 0) ∷ stat AllNonNull x ∷ []

abbrev pub every_null : Tree Place → List (Tree Place)
every_null x = binary Eq (null_count_of x) row_count ∷ stat AllNull x ∷ []

-- that every value lies above a text, as the operator says, or below another
abbrev pub beyond : Tree Place → Operator → (above below : List ℕ) → Option (Tree Place)
beyond x o above below = both_of (binary Or) (both_of (binary o) (min_of x) (Some (bytes_literal above))) (both_of (binary Lt) (max_of x) (Some (bytes_literal below)))

-- that no value is the text
abbrev pub other_than : Tree Place → (text : List ℕ) → Option (Tree Place)
other_than x cs = beyond x Gt (encode_utf8_all cs) (encode_utf8_all cs)

-- that no value begins with the prefix, whose successor is given
abbrev pub outside : Tree Place → (prefix : List ℕ) → Option (List ℕ) → Option (Tree Place)
outside x cs None = None
outside x cs (Some ds) = beyond x Gte (encode_utf8_all ds) (encode_utf8_all cs)

abbrev pub items_falsifier : Tree Place → List Item → Option (Tree Place)
items_falsifier x is = if is_exact is then other_than x (literal_prefix is) else outside x (literal_prefix is) (successor (literal_prefix is))

-- that no value is a text that the pattern matches
abbrev pub text_falsifier : Tree Place → Option (List ℕ) → Option (Tree Place)
text_falsifier x None = None
text_falsifier x (Some bs) = items_falsifier x (items (chars bs))

-- that no text matches the pattern, if it is a text and compared as it stands
abbrev pub pattern_falsifier : LikeOptions → Tree Place → Option ScalarValue → Option (Tree Place)
pattern_falsifier o x (Some (value.Utf8 bs)) = if o.negated then None else (if o.case_insensitive then None else text_falsifier x (Some bs))
pattern_falsifier o x v = None

abbrev pub like_falsifier : LikeOptions → (text pattern : Tree Place) → Option (Tree Place)
like_falsifier o x (literal c) = pattern_falsifier o x c.value
like_falsifier o x p = None

-- the built-in falsifiers of a node that is neither of two operands nor a BETWEEN
abbrev pub table_falsifiers : Tree Place → List (Tree Place)
table_falsifiers (literal c) = option_to_list (literal_falsifier c.value)
table_falsifiers (is_null x) = none_null x
table_falsifiers (is_not_null x) = every_null x
table_falsifiers (like o x p) = option_to_list (like_falsifier o x p)
table_falsifiers e = []

-- and its satisfiers
abbrev pub table_satisfiers : Tree Place → List (Tree Place)
table_satisfiers (literal c) = option_to_list (literal_satisfier c.value)
table_satisfiers (is_null x) = every_null x
table_satisfiers (is_not_null x) = none_null x
table_satisfiers e = []

-- ---- the tables by what is to be proved: that no row satisfies the predicate, or that every row does

abbrev pub comparison_proof : Side → Operator → (l r : Tree Place) → Option (Tree Place)
comparison_proof Falsify o l r = comparison_falsifier o l r
comparison_proof Satisfy o l r = comparison_satisfier o l r

abbrev pub table_proofs : Side → Tree Place → List (Tree Place)
table_proofs Falsify e = table_falsifiers e
table_proofs Satisfy e = table_satisfiers e

-- AND is falsified by either of its sides, and satisfied by both
abbrev pub and_proof : Side → Option (Tree Place) → Option (Tree Place) → Option (Tree Place)
and_proof Falsify f g = either_of (binary Or) f g
and_proof Satisfy f g = both_of (binary And) f g

-- OR is falsified by both of its sides, and satisfied by either
abbrev pub or_proof : Side → Option (Tree Place) → Option (Tree Place) → Option (Tree Place)
or_proof Falsify f g = both_of (binary And) f g
or_proof Satisfy f g = either_of (binary Or) f g

-- a connective by the proofs of its sides, and a comparison by its operands
abbrev pub of_sides : Side → Operator → (l r : Tree Place) → Option (Tree Place) → Option (Tree Place) → Option (Tree Place)
of_sides side And l r f g = and_proof side f g
of_sides side Or l r f g = or_proof side f g
of_sides side o l r f g = comparison_proof side o l r

-- a BETWEEN whose ends leave no value between: no row satisfies it
abbrev pub empty_proof : Side → Option (Tree Place)
empty_proof Falsify = Some (bool_literal true)
empty_proof Satisfy = None

-- ---- joining the proofs at a node

-- a round joins neighbours by OR, the first with the second, the third with the fourth, and carries an odd last one over
abbrev pub round : List (Tree Place) → List (Tree Place)
round [] = []
round (p ∷ []) = p ∷ []
round (p ∷ q ∷ ps) = binary Or p q ∷ round ps

-- rounds until one is left
abbrev pub rounds : ℕ → List (Tree Place) → Option (Tree Place)
rounds n [] = None
rounds n (p ∷ []) = Some p
rounds zero (p ∷ q ∷ ps) = None
rounds (suc n) (p ∷ q ∷ ps) = rounds n (binary Or p q ∷ round ps)

-- a round leaves fewer of two or more, so there are no more rounds than proofs
unfoldable pub reduce_balanced : List (Tree Place) → Option (Tree Place)
reduce_balanced ps = rounds (length ps) ps

-- whether a rule is asked at an expression; a column has no function, so no rule is asked there
abbrev pub is_function : Option ScalarFnId → ScalarFnId → Bool
is_function None id = false
is_function (Some f) id = functions.ghosts.eq f id

-- some rule is asked there
abbrev pub is_asked : List OwnRule → Tree Place → Bool
is_asked [] p = false
is_asked (rule ∷ rules) p = is_function (scalar_fn_of p) rule.id || is_asked rules p

-- what one rule proves
abbrev pub asked : (OwnRule → Tree Place → Option (Tree Place)) → Tree Place → OwnRule → Option (Tree Place)
asked prove p rule = if is_function (scalar_fn_of p) rule.id then prove rule p else None

-- what the rules prove, in their order
abbrev pub own_proofs : (OwnRule → Tree Place → Option (Tree Place)) → List OwnRule → Tree Place → List (Tree Place)
own_proofs prove rules p = filter_map (asked prove p) rules

-- the built-in proofs of a node, and then those of the rules, joined
unfoldable pub node : (OwnRule → Tree Place → Option (Tree Place)) → List OwnRule → Tree Place → List (Tree Place) → Option (Tree Place)
node prove rules p built_in = reduce_balanced (built_in ++ own_proofs prove rules p)

-- ---- the ends of a BETWEEN

-- the least whole number that a lower end lets through, and the greatest that an upper one does
abbrev pub low_size : StrictComparison → PValue → ℤ
low_size Strict p = number_of p +ℤ pos 1
low_size NonStrict p = number_of p

abbrev pub high_size : StrictComparison → PValue → ℤ
high_size Strict p = number_of p -ℤ pos 1
high_size NonStrict p = number_of p

-- the ends by which a BETWEEN is rewritten
pub record Ends : Type 0 where
  pub options : BetweenOptions
  pub lower : Tree Place
  pub upper : Tree Place

abbrev pub is_closed_end : StrictComparison → Bool
is_closed_end Strict = false
is_closed_end NonStrict = true

abbrev pub are_closed : BetweenOptions → Bool
are_closed o = is_closed_end o.lower_strict && is_closed_end o.upper_strict

abbrev pub closed : BetweenOptions
closed = record { lower_strict = NonStrict; upper_strict = NonStrict }

-- the literal of a constant's type that is a number
abbrev pub number_literal : Constant → PValue → Tree Place
number_literal c p = literal (record { dtype = c.dtype; value = Some (value.Primitive p) })

-- none if no whole number lies between
abbrev pub number_ends : BetweenOptions → (c d : Constant) → (p q : PValue) → Option Ends
number_ends o c d p q =
    if int_le (low_size o.lower_strict p) (high_size o.upper_strict q) then Some (record {
      options = closed;
      lower = number_literal c (resized p (low_size o.lower_strict p));
      upper = number_literal d (resized q (high_size o.upper_strict q));
    })
    else None

-- the order of the lower end and the upper one leaves no value between
abbrev pub is_crossed : BetweenOptions → Ordering → Bool
is_crossed o order = if is_eq order then not_b (are_closed o) else is_gt order

abbrev pub value_ends : BetweenOptions → (c d : Constant) → (v w : ScalarValue) → Option Ends
value_ends o c d (value.Primitive p) (value.Primitive q) = number_ends o c d p q
value_ends o c d v w = if is_crossed o (value_cmp v w) then None else Some (record { options = o; lower = literal c; upper = literal d })

abbrev pub literal_ends : BetweenOptions → (c d : Constant) → (v w : Option ScalarValue) → Option Ends
literal_ends o c d (Some v) (Some w) = value_ends o c d v w
literal_ends o c d v w = Some (record { options = o; lower = literal c; upper = literal d })

-- the ends of a BETWEEN by which it is rewritten; none if they are literals between which no value lies
abbrev pub ends : BetweenOptions → (lower upper : Tree Place) → Option Ends
ends o (literal c) (literal d) = literal_ends o c d c.value d.value
ends o l u = Some (record { options = o; lower = l; upper = u })

-- ---- proofs

-- the built-in proofs of a node, and then those of the user's rules, joined
abbrev pub proved : Side → List OwnRule → Tree Place → List (Tree Place) → Option (Tree Place)
proved side rules p built_in = node (proof_of side) rules p built_in

-- a node of two operands, whose own proofs are given
abbrev pub binary_node : Side → List OwnRule → Operator → (l r : Tree Place) → Option (Tree Place) → Option (Tree Place) → Option (Tree Place)
binary_node side rules o l r f g = proved side rules (binary o l r) (option_to_list (of_sides side o l r f g))

-- the AND of the two comparisons that a BETWEEN stands for
abbrev pub halves : BetweenOptions → (x lower upper : Tree Place) → Tree Place
halves o x l u = binary And (binary (to_operator o.lower_strict) l x) (binary (to_operator o.upper_strict) x u)

-- its proof
abbrev pub halves_node : Side → List OwnRule → BetweenOptions → (x lower upper : Tree Place) → Option (Tree Place)
halves_node side rules o x l u =
    binary_node side rules And (binary (to_operator o.lower_strict) l x) (binary (to_operator o.upper_strict) x u)
    (binary_node side rules (to_operator o.lower_strict) l x None None)
    (binary_node side rules (to_operator o.upper_strict) x u None None)

-- the proof of the AND for a BETWEEN's ends
abbrev pub ends_node : Side → List OwnRule → (x : Tree Place) → Option Ends → Option (Tree Place)
ends_node side rules x None = empty_proof side
ends_node side rules x (Some e) = halves_node side rules e.options x e.lower e.upper

-- the proof of a predicate, if there is one
abbrev pub rewriting : Side → List OwnRule → Tree Place → Option (Tree Place)
rewriting side rules (column c) = None
rewriting side rules (literal c) = proved side rules (literal c) (table_proofs side (literal c))
rewriting side rules (binary o l r) = binary_node side rules o l r (rewriting side rules l) (rewriting side rules r)
rewriting side rules (between o x l u) = proved side rules (between o x l u) (option_to_list (ends_node side rules x (ends o l u)))
rewriting side rules (is_null x) = proved side rules (is_null x) (table_proofs side (is_null x))
rewriting side rules (is_not_null x) = proved side rules (is_not_null x) (table_proofs side (is_not_null x))
rewriting side rules (not x) = proved side rules (not x) (table_proofs side (not x))
rewriting side rules (like o x p) = proved side rules (like o x p) (table_proofs side (like o x p))
rewriting side rules (stat f x) = proved side rules (stat f x) (table_proofs side (stat f x))
rewriting side rules row_count = proved side rules row_count (table_proofs side row_count)

-- the proof that no row satisfies a predicate
abbrev pub falsifier : List OwnRule → Tree Place → Option (Tree Place)
falsifier rules p = rewriting Falsify rules p

-- and that every row does
abbrev pub satisfier : List OwnRule → Tree Place → Option (Tree Place)
satisfier rules p = rewriting Satisfy rules p

-- ---- visits: the turns of the engine

abbrev pub binary_visits : Operator → ℕ → ℕ → ℕ
binary_visits And l r = 1 + (l + r)
binary_visits Or l r = 1 + (l + r)
binary_visits o l r = 1

-- a BETWEEN takes a turn for itself and, if it's rewritten, for the AND and the two comparisons
abbrev pub ends_visits : Option Ends → ℕ
ends_visits None = 1
ends_visits (Some e) = 4

abbrev pub visits : Tree Place → ℕ
visits (column c) = 1
visits (literal c) = 1
visits (binary o l r) = binary_visits o (visits l) (visits r)
visits (between o x l u) = ends_visits (ends o l u)
visits (is_null x) = 1
visits (is_not_null x) = 1
visits (not x) = 1
visits (like o x p) = 1
visits (stat f x) = 1
visits row_count = 1
