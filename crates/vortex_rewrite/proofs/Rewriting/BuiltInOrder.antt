-- The proofs at a node are those of the built-in rules in their order.
use Rattle.std.proofs.Common.{◌≡◌, false, List, [], Option, Some, None, option_to_list, refl, ap}
use Rattle.std.specs.List.{cons_option, filter_map}
use Rattle.vortex_expr.specs.declared.scalar_fn.ScalarFnId.{ScalarFnId}
use Rattle.vortex_expr.specs.Trees.Tree.{Tree, Place, column, literal, binary, between, is_null, is_not_null, not, like, stat, row_count, scalar_fn_of}
use Rattle.vortex_rewrite.specs.Rewriting.BuiltIn.{function_of}
use Rattle.vortex_rewrite.specs.Rewriting.BuiltInRules.{built_in_rules, falsifier_by, satisfier_by}
use Rattle.vortex_rewrite.specs.Rewriting.Lawful.{OwnRule}
use Rattle.vortex_rewrite.specs.Rewriting.Falsifiers.{ends, ends_node, falsifier, is_function, like_falsifier, literal_falsifier, literal_satisfier, node, of_sides, proved, satisfier}
use Rattle.vortex_rewrite.specs.declared.rewrite.rules.BuiltinRule.{BuiltinRule}
use Rattle.vortex_rewrite.specs.declared.rewrite.rules.BuiltinRule.TheVariants as rule
use Rattle.vortex_rewrite.specs.declared.rewrite.side.Side.TheVariants.{Falsify, Satisfy}

one_or_none : (o : Option (Tree Place)) → option_to_list o ≡ cons_option o []
one_or_none None = refl
one_or_none (Some p) = refl

pub falsifiers_in_order : (own : List OwnRule) (p : Tree Place) (id : ScalarFnId) → scalar_fn_of p ≡ Some id → falsifier own p ≡ node (λ r. r.falsifier) own p (filter_map (falsifier_by own p) built_in_rules)
falsifiers_in_order own (column c) id h = absurd cc
falsifiers_in_order own (literal c) id h = ap (proved Falsify own (literal c)) (one_or_none (literal_falsifier c.value))
falsifiers_in_order own (binary o l r) id h = ap (proved Falsify own (binary o l r)) (one_or_none (of_sides Falsify o l r (falsifier own l) (falsifier own r)))
falsifiers_in_order own (between o x l u) id h = ap (proved Falsify own (between o x l u)) (one_or_none (ends_node Falsify own x (ends o l u)))
falsifiers_in_order own (is_null x) id h = refl
falsifiers_in_order own (is_not_null x) id h = refl
falsifiers_in_order own (not x) id h = refl
falsifiers_in_order own (like o x p) id h = ap (proved Falsify own (like o x p)) (one_or_none (like_falsifier o x p))
falsifiers_in_order own (stat f x) id h = refl
falsifiers_in_order own row_count id h = refl

pub satisfiers_in_order : (own : List OwnRule) (p : Tree Place) (id : ScalarFnId) → scalar_fn_of p ≡ Some id → satisfier own p ≡ node (λ r. r.satisfier) own p (filter_map (satisfier_by own p) built_in_rules)
satisfiers_in_order own (column c) id h = absurd cc
satisfiers_in_order own (literal c) id h = ap (proved Satisfy own (literal c)) (one_or_none (literal_satisfier c.value))
satisfiers_in_order own (binary o l r) id h = ap (proved Satisfy own (binary o l r)) (one_or_none (of_sides Satisfy o l r (satisfier own l) (satisfier own r)))
satisfiers_in_order own (between o x l u) id h = ap (proved Satisfy own (between o x l u)) (one_or_none (ends_node Satisfy own x (ends o l u)))
satisfiers_in_order own (is_null x) id h = refl
satisfiers_in_order own (is_not_null x) id h = refl
satisfiers_in_order own (not x) id h = refl
satisfiers_in_order own (like o x p) id h = refl
satisfiers_in_order own (stat f x) id h = refl
satisfiers_in_order own row_count id h = refl

-- at a node of another function a rule proves nothing
pub of_function : (own : List OwnRule) (p : Tree Place) (b : BuiltinRule) → is_function (scalar_fn_of p) (function_of b) ≡ false → (falsifier_by own p b ≡ None) × (satisfier_by own p b ≡ None)
of_function own (literal c) rule.LiteralStatsRewrite h = absurd cc
of_function own (binary o l r) rule.BinaryNanCountStatsRewrite h = absurd cc
of_function own (between o x l u) rule.BetweenStatsRewrite h = absurd cc
of_function own (is_null x) rule.IsNullNullCountStatsRewrite h = absurd cc
of_function own (is_null x) rule.IsNullAllNonNullStatsRewrite h = absurd cc
of_function own (is_null x) rule.IsNullAllNullStatsRewrite h = absurd cc
of_function own (is_not_null x) rule.IsNotNullNullCountStatsRewrite h = absurd cc
of_function own (is_not_null x) rule.IsNotNullAllNullStatsRewrite h = absurd cc
of_function own (is_not_null x) rule.IsNotNullAllNonNullStatsRewrite h = absurd cc
of_function own (like o x p) rule.LikeStatsRewrite h = absurd cc
of_function own p b h = (refl, refl)
