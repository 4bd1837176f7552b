-- The cases of what a leaf or a connective becomes.
use Rattle.std.proofs.Common.{◌≡◌, Bool, true, false, not, ◌&&◌, ◌||◌, ◌⊎◌, [], Option, Some, None, refl, if◌then◌else◌}
use Rattle.std.proofs.lemmas.Bool.{or_cases}
use Rattle.vortex_expr.specs.Trees.Tree.{Tree, Place, binary, is_not_null, like, literal, has_bare_column, has_placeholder, has_row_count, is_plain}
use Rattle.vortex_expr.specs.Trees.TreeEq.{tree_eq, tree_eq_is_exact}
use Rattle.vortex_expr.specs.Meanings.Meaning.{meaning, satisfies}
use Rattle.vortex_base.specs.declared.dtype.DType.TheVariants as dtype
use Rattle.vortex_base.specs.declared.types.Nullability.TheVariants.{Nullable}
use Rattle.vortex_expr.specs.declared.scalar_fn.Operator.{Operator}
use Rattle.vortex_expr.specs.declared.scalar_fn.Operator.TheVariants.{And, Or}
use Rattle.vortex_expr.specs.declared.like.LikeOptions.{LikeOptions}
use Rattle.vortex_rewrite.specs.Rewriting.Falsifiers.{bool_literal}
use Rattle.vortex_normal.specs.Ends.{ended}
use Rattle.vortex_normal.specs.Pushed.{all_by, all_of, any_by, any_of, as_comparisons, comparison_of, connected, decided, folded, given_or, is_literal, is_null_literal, is_reflexive, liked, settled}

pub if_as : (P : Tree Place → Type 0) (b : Bool) (x y : Tree Place) → (b ≡ true → P x) → (b ≡ false → P y) → P (if b then x else y)
if_as P true x y f g = f refl
if_as P false x y f g = g refl

both_false : (a b c : Bool) → (a || not (not b && not c)) ≡ false → (a ≡ false) × (c ≡ false)
both_false true b c h = cc
both_false false true c h = cc
both_false false false true h = cc
both_false false false false h = (refl, refl)

pub settled_as : (P : Tree Place → Type 0) (q : Tree Place) → P q → (has_bare_column q ≡ false → has_row_count q ≡ false → P (bool_literal (satisfies q [] 0))) → P (settled q)
unfolding settled
settled_as P q h k =
    if_as P (has_bare_column q || not (is_plain q)) q (bool_literal (satisfies q [] 0)) (λ _. h)
    (λ e. let w = both_false (has_bare_column q) (has_placeholder q) (has_row_count q) e in k w.0 w.1)

pub not_constant : (a b c d : Bool) → (a || (b || not (not c && not d))) ≡ false → (a ≡ false) × ((b ≡ false) × ((c ≡ false) × (d ≡ false)))
not_constant true b c d h = cc
not_constant false true c d h = cc
not_constant false false true d h = cc
not_constant false false false true h = cc
not_constant false false false false h = (refl, (refl, (refl, refl)))

pub folded_as : (P : Tree Place → Type 0) (e : Tree Place) → P e → (has_bare_column e ≡ false → has_placeholder e ≡ false → has_row_count e ≡ false → P (literal (record { dtype = dtype.Bool Nullable; value = meaning e [] 0 }))) → P (folded e)
unfolding folded
folded_as P e h k =
    if_as P (is_literal e || (has_bare_column e || not (is_plain e))) e (literal (record { dtype = dtype.Bool Nullable; value = meaning e [] 0 })) (λ _. h)
    (λ f. let w = not_constant (is_literal e) (has_bare_column e) (has_placeholder e) (has_row_count e) f in k w.1.0 w.1.1.0 w.1.1.1)

pub comparison_as : (P : Tree Place → Type 0) (o : Operator) (l r : Tree Place) → ((is_null_literal l ≡ true) ⊎ (is_null_literal r ≡ true) → P (bool_literal false))
    → (l ≡ r → is_reflexive o ≡ true → P (settled (is_not_null l))) → (l ≡ r → is_reflexive o ≡ false → P (bool_literal false)) → P (settled (ended o l r)) → P (comparison_of o l r)
unfolding comparison_of
comparison_as P o l r f g h k =
    if_as P (is_null_literal l || is_null_literal r) (bool_literal false)
    (if tree_eq l r then (if is_reflexive o then settled (is_not_null l) else bool_literal false) else settled (ended o l r))
    (λ e. f (or_cases (is_null_literal l) (is_null_literal r) e))
    (λ _. if_as P (tree_eq l r) (if is_reflexive o then settled (is_not_null l) else bool_literal false) (settled (ended o l r))
    (λ e. if_as P (is_reflexive o) (settled (is_not_null l)) (bool_literal false) (g ((tree_eq_is_exact l r).0 e)) (h ((tree_eq_is_exact l r).0 e)))
    (λ _. k))

given_as : (P : Tree Place → Type 0) (m : Option (Tree Place)) (q : Tree Place) → ((e : Tree Place) → m ≡ Some e → P e) → (m ≡ None → P q) → P (given_or m q)
given_as P (Some e) q f h = f e refl
given_as P None q f h = h refl

pub liked_as : (P : Tree Place → Type 0) (o : LikeOptions) (x p : Tree Place) → ((is_null_literal x ≡ true) ⊎ (is_null_literal p ≡ true) → P (bool_literal false))
    → ((e : Tree Place) → as_comparisons o x p ≡ Some e → P e) → (as_comparisons o x p ≡ None → P (settled (like o x p))) → P (liked o x p)
unfolding liked
liked_as P o x p f g k =
    if_as P (is_null_literal x || is_null_literal p) (bool_literal false) (given_or (as_comparisons o x p) (settled (like o x p)))
    (λ e. f (or_cases (is_null_literal x) (is_null_literal p) e)) (λ _. given_as P (as_comparisons o x p) (settled (like o x p)) g k)

module _ (P : Tree Place → Type 0) (l r : Tree Place) (pl : P l) (pr : P r) where
  pub all_by_kept : (a b : Option Bool) → P (binary And l r) → P (all_by a b l r)
  all_by_kept (Some true) b h = pr
  all_by_kept (Some false) b h = pl
  all_by_kept None (Some true) h = pl
  all_by_kept None (Some false) h = pr
  all_by_kept None None h = h

  pub any_by_kept : (a b : Option Bool) → P (binary Or l r) → P (any_by a b l r)
  any_by_kept (Some true) b h = pl
  any_by_kept (Some false) b h = pr
  any_by_kept None (Some true) h = pr
  any_by_kept None (Some false) h = pl
  any_by_kept None None h = h

  -- what two predicates and both their connectives have, what they are connected to has
  pub connected_kept : (w : Bool) → P (binary And l r) → P (binary Or l r) → P (connected w l r)
  unfolding all_of any_of
  connected_kept true h k = all_by_kept (decided l) (decided r) h
  connected_kept false h k = any_by_kept (decided l) (decided r) k
