-- An exact equality test of typed trees.
use Rattle.std.specs.Prelude.{◌≡◌, ◌==◌, ◌&&◌, ℕ, Bool, true, false, IsTrue, refl}
use Rattle.std.proofs.Common.{rules, ap, subst}
use Rattle.vortex_base.specs.Data.Exact.{IsExact, both_hold, both_true}
use Rattle.vortex_base.specs.Data.Types.{dtype_eq, dtype_eq_is_exact}
use Rattle.vortex_base.specs.Data.Scalars.{constant_eq, constant_eq_is_exact}
use Rattle.vortex_expr.specs.declared.scalar_fn.Operator.{Operator}
use Rattle.vortex_expr.specs.declared.scalar_fn.BetweenOptions.{BetweenOptions}
use Rattle.vortex_expr.specs.declared.like.LikeOptions.{LikeOptions}
use Rattle.vortex_base.specs.declared.aggregate.AggregateFnRef.{AggregateFnRef}
use Rattle.vortex_expr.specs.contracts.scalar_fn.OperatorPartialEq.TheImpl as operators
use Rattle.vortex_expr.specs.contracts.scalar_fn.BetweenOptionsPartialEq.TheImpl as between_options
use Rattle.vortex_expr.specs.contracts.like.LikeOptionsPartialEq.TheImpl as like_options
use Rattle.vortex_base.specs.contracts.aggregate.AggregateFnRefPartialEq.TheImpl as aggregates
use Rattle.vortex_expr.specs.Trees.Tree.{Tree, Place, column, literal, binary, between, is_null, is_not_null, not, like, stat, row_count}

abbrev pub operator_eq : Operator → Operator → Bool
operator_eq = operators.ghosts.eq

abbrev pub between_options_eq : BetweenOptions → BetweenOptions → Bool
between_options_eq = between_options.ghosts.eq

abbrev pub like_options_eq : LikeOptions → LikeOptions → Bool
like_options_eq = like_options.ghosts.eq

abbrev pub aggregate_eq : AggregateFnRef → AggregateFnRef → Bool
aggregate_eq = aggregates.ghosts.eq

operator_eq_is_exact : IsExact operator_eq
operator_eq_is_exact a b = search rules

between_options_eq_is_exact : IsExact between_options_eq
between_options_eq_is_exact a b = search rules

like_options_eq_is_exact : IsExact like_options_eq
like_options_eq_is_exact a b = search rules

aggregate_eq_is_exact : IsExact aggregate_eq
aggregate_eq_is_exact a b = search rules

abbrev pub place_eq : Place → Place → Bool
place_eq c d = (c.index == d.index) && dtype_eq c.dtype d.dtype

nat_eq_is_exact : IsExact (λ (i j : ℕ). i == j)
nat_eq_is_exact i j = search rules

-- whether two trees are one
abbrev pub tree_eq : Tree Place → Tree Place → Bool
tree_eq (column c) (column d) = place_eq c d
tree_eq (literal c) (literal d) = constant_eq c d
tree_eq (binary o a b) (binary p c d) = operator_eq o p && (tree_eq a c && tree_eq b d)
tree_eq (between o a b c) (between p d e f) = between_options_eq o p && (tree_eq a d && (tree_eq b e && tree_eq c f))
tree_eq (is_null a) (is_null b) = tree_eq a b
tree_eq (is_not_null a) (is_not_null b) = tree_eq a b
tree_eq (not a) (not b) = tree_eq a b
tree_eq (like o a b) (like p c d) = like_options_eq o p && (tree_eq a c && tree_eq b d)
tree_eq (stat f a) (stat g b) = aggregate_eq f g && tree_eq a b
tree_eq row_count row_count = true
tree_eq a b = false

same_place : (c d : Place) → IsTrue (place_eq c d) → c ≡ d
same_place c d h =
    let w = both_true _ _ h in
    let p : c.index ≡ d.index = (nat_eq_is_exact c.index d.index).0 w.0 in
    let q : c.dtype ≡ d.dtype = (dtype_eq_is_exact c.dtype d.dtype).0 w.1 in
    λ k. record { index = p k; dtype = q k }

same_tree : (a b : Tree Place) → IsTrue (tree_eq a b) → a ≡ b
same_tree (column c) (column d) h = ap column (same_place c d h)
same_tree (literal c) (literal d) h = ap literal ((constant_eq_is_exact c d).0 h)
same_tree (binary o a b) (binary p c d) h =
    let w = both_true (operator_eq o p) (tree_eq a c && tree_eq b d) h in
    let v = both_true (tree_eq a c) (tree_eq b d) w.1 in
    let s : o ≡ p = (operator_eq_is_exact o p).0 w.0 in
    let x : a ≡ c = same_tree a c v.0 in
    let y : b ≡ d = same_tree b d v.1 in
    λ k. binary (s k) (x k) (y k)
same_tree (between o a b c) (between p d e f) h =
    let w = both_true (between_options_eq o p) (tree_eq a d && (tree_eq b e && tree_eq c f)) h in
    let v = both_true (tree_eq a d) (tree_eq b e && tree_eq c f) w.1 in
    let u = both_true (tree_eq b e) (tree_eq c f) v.1 in
    let s : o ≡ p = (between_options_eq_is_exact o p).0 w.0 in
    let x : a ≡ d = same_tree a d v.0 in
    let y : b ≡ e = same_tree b e u.0 in
    let z : c ≡ f = same_tree c f u.1 in
    λ k. between (s k) (x k) (y k) (z k)
same_tree (is_null a) (is_null b) h = ap is_null (same_tree a b h)
same_tree (is_not_null a) (is_not_null b) h = ap is_not_null (same_tree a b h)
same_tree (not a) (not b) h = ap not (same_tree a b h)
same_tree (like o a b) (like p c d) h =
    let w = both_true (like_options_eq o p) (tree_eq a c && tree_eq b d) h in
    let v = both_true (tree_eq a c) (tree_eq b d) w.1 in
    let s : o ≡ p = (like_options_eq_is_exact o p).0 w.0 in
    let x : a ≡ c = same_tree a c v.0 in
    let y : b ≡ d = same_tree b d v.1 in
    λ k. like (s k) (x k) (y k)
same_tree (stat f a) (stat g b) h =
    let w = both_true (aggregate_eq f g) (tree_eq a b) h in
    let s : f ≡ g = (aggregate_eq_is_exact f g).0 w.0 in
    let x : a ≡ b = same_tree a b w.1 in
    λ k. stat (s k) (x k)
same_tree row_count row_count h = refl
same_tree a b h = cc

tree_eq_itself : (a : Tree Place) → IsTrue (tree_eq a a)
tree_eq_itself (column c) = both_hold _ _ ((nat_eq_is_exact c.index c.index).1 refl) ((dtype_eq_is_exact c.dtype c.dtype).1 refl)
tree_eq_itself (literal c) = (constant_eq_is_exact c c).1 refl
tree_eq_itself (binary o a b) = both_hold _ _ ((operator_eq_is_exact o o).1 refl) (both_hold _ _ (tree_eq_itself a) (tree_eq_itself b))
tree_eq_itself (between o a b c) =
    both_hold _ _ ((between_options_eq_is_exact o o).1 refl) (both_hold _ _ (tree_eq_itself a) (both_hold _ _ (tree_eq_itself b) (tree_eq_itself c)))
tree_eq_itself (is_null a) = tree_eq_itself a
tree_eq_itself (is_not_null a) = tree_eq_itself a
tree_eq_itself (not a) = tree_eq_itself a
tree_eq_itself (like o a b) = both_hold _ _ ((like_options_eq_is_exact o o).1 refl) (both_hold _ _ (tree_eq_itself a) (tree_eq_itself b))
tree_eq_itself (stat f a) = both_hold _ _ ((aggregate_eq_is_exact f f).1 refl) (tree_eq_itself a)
tree_eq_itself row_count = refl

pub tree_eq_is_exact : IsExact tree_eq
tree_eq_is_exact a b = (same_tree a b, λ e. subst (λ (x : Tree Place). IsTrue (tree_eq a x)) e (tree_eq_itself a))
