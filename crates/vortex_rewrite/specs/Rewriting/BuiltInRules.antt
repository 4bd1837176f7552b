-- The built-in rules, one by one: what each proves at a node of its function, and their order.
use Rattle.std.specs.Prelude.{◌≡◌, false, List, [], ◌∷◌, Option, Some, None}
use Rattle.std.specs.List.{filter_map}
use Rattle.vortex_base.specs.declared.aggregate.AggregateFnRef.TheVariants.{AllNull, AllNonNull}
use Rattle.vortex_expr.specs.declared.scalar_fn.Operator.TheVariants.{Eq}
use Rattle.vortex_expr.specs.declared.scalar_fn.ScalarFnId.{ScalarFnId}
use Rattle.vortex_expr.specs.Trees.Tree.{Tree, Place, literal, binary, between, is_null, is_not_null, like, stat, row_count, scalar_fn_of}
use Rattle.vortex_rewrite.specs.Rewriting.BuiltIn.{function_of}
use Rattle.vortex_rewrite.specs.Rewriting.Lawful.{OwnRule}
use Rattle.vortex_rewrite.specs.Rewriting.Falsifiers.{count_literal, ends, ends_node, falsifier, is_function, like_falsifier, literal_falsifier, literal_satisfier, node, null_count_of, of_sides, satisfier}
use Rattle.vortex_rewrite.specs.declared.rewrite.rules.BuiltinRule.{BuiltinRule}
use Rattle.vortex_rewrite.specs.declared.rewrite.rules.BuiltinRule.TheVariants as rule
use Rattle.vortex_rewrite.specs.declared.rewrite.side.Side.TheVariants.{Falsify, Satisfy}

-- the rules in the order in which their proofs stand
abbrev pub built_in_rules : List BuiltinRule
built_in_rules =
    rule.BinaryNanCountStatsRewrite ∷ rule.BetweenStatsRewrite ∷ rule.LiteralStatsRewrite ∷
    rule.IsNullNullCountStatsRewrite ∷ rule.IsNullAllNonNullStatsRewrite ∷ rule.IsNullAllNullStatsRewrite ∷
    rule.IsNotNullNullCountStatsRewrite ∷ rule.IsNotNullAllNullStatsRewrite ∷ rule.IsNotNullAllNonNullStatsRewrite ∷
    rule.LikeStatsRewrite ∷ []

-- what a rule proves of a predicate, that no row satisfies it, the user's rules being given for the parts of it
abbrev pub falsifier_by : List OwnRule → Tree Place → BuiltinRule → Option (Tree Place)
falsifier_by own (literal c) rule.LiteralStatsRewrite = literal_falsifier c.value
falsifier_by own (binary o l r) rule.BinaryNanCountStatsRewrite = of_sides Falsify o l r (falsifier own l) (falsifier own r)
falsifier_by own (between o x l u) rule.BetweenStatsRewrite = ends_node Falsify own x (ends o l u)
falsifier_by own (is_null x) rule.IsNullNullCountStatsRewrite = Some (binary Eq (null_count_of x) (count_literal 0))
falsifier_by own (is_null x) rule.IsNullAllNonNullStatsRewrite = Some (stat AllNonNull x)
falsifier_by own (is_not_null x) rule.IsNotNullNullCountStatsRewrite = Some (binary Eq (null_count_of x) row_count)
falsifier_by own (is_not_null x) rule.IsNotNullAllNullStatsRewrite = Some (stat AllNull x)
falsifier_by own (like o x p) rule.LikeStatsRewrite = like_falsifier o x p
falsifier_by own p b = None

-- and that every row does
abbrev pub satisfier_by : List OwnRule → Tree Place → BuiltinRule → Option (Tree Place)
satisfier_by own (literal c) rule.LiteralStatsRewrite = literal_satisfier c.value
satisfier_by own (binary o l r) rule.BinaryNanCountStatsRewrite = of_sides Satisfy o l r (satisfier own l) (satisfier own r)
satisfier_by own (between o x l u) rule.BetweenStatsRewrite = ends_node Satisfy own x (ends o l u)
satisfier_by own (is_null x) rule.IsNullNullCountStatsRewrite = Some (binary Eq (null_count_of x) row_count)
satisfier_by own (is_null x) rule.IsNullAllNullStatsRewrite = Some (stat AllNull x)
satisfier_by own (is_not_null x) rule.IsNotNullNullCountStatsRewrite = Some (binary Eq (null_count_of x) (count_literal 0))
satisfier_by own (is_not_null x) rule.IsNotNullAllNonNullStatsRewrite = Some (stat AllNonNull x)
satisfier_by own p b = None

-- at a node of a function, the proofs of the built-in rules stand in their order before those of the user's rules
abbrev pub ProofsAreInOrder : Type 0
ProofsAreInOrder =
    (own : List OwnRule) (p : Tree Place) (id : ScalarFnId) → scalar_fn_of p ≡ Some id →
    (falsifier own p ≡ node (λ r. r.falsifier) own p (filter_map (falsifier_by own p) built_in_rules)) ×
    (satisfier own p ≡ node (λ r. r.satisfier) own p (filter_map (satisfier_by own p) built_in_rules))

-- and a built-in rule proves something of a node of its function alone
abbrev pub RulesAreOfFunctions : Type 0
RulesAreOfFunctions =
    (own : List OwnRule) (p : Tree Place) (b : BuiltinRule) → is_function (scalar_fn_of p) (function_of b) ≡ false →
    (falsifier_by own p b ≡ None) × (satisfier_by own p b ≡ None)
