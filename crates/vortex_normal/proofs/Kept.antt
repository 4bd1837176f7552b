-- A predicate pushed down has no column and no placeholder that it had not.
use Rattle.std.proofs.Common.{◌≡◌, ◌⊎◌, inl, inr, Bool, true, false, not as not_b, ◌&&◌, ◌||◌, IsTrue, refl, ap, subst}
use Rattle.std.proofs.lemmas.Bool.{and_parts, or_parts, not-true}
use Rattle.vortex_base.specs.Data.Exact.{both_hold}
use Rattle.vortex_expr.specs.Trees.Between.{to_operator}
use Rattle.vortex_base.specs.Data.Scalars.{Constant}
use Rattle.vortex_expr.specs.Trees.Tree.{Tree, Place, all_columns, column, literal, binary, between, is_null, is_not_null, not, like, stat, row_count, some_node, has_placeholder, has_row_count, is_placeholder, is_plain, is_row_count}
use Rattle.vortex_expr.specs.declared.scalar_fn.BetweenOptions.{BetweenOptions}
use Rattle.vortex_expr.specs.declared.like.LikeOptions.{LikeOptions}
use Rattle.vortex_expr.specs.declared.scalar_fn.Operator.{Operator}
use Rattle.vortex_expr.specs.declared.scalar_fn.Operator.TheVariants.{Eq, NotEq, Gt, Gte, Lt, Lte, And, Or}
use Rattle.vortex_normal.specs.Ends.{ended}
use Rattle.vortex_normal.specs.Pushed.{any_text, comparison, comparison_of, connected, folded, like_as, liked, null_test, operator_as, pushed, settled}
use Rattle.vortex_rewrite.specs.Rewriting.Falsifiers.{bytes_literal}
use Rattle.vortex_normal.proofs.TypeEnds.{ended_as}
use Rattle.vortex_normal.proofs.Forms.{comparison_as, connected_kept, folded_as, liked_as, settled_as}
use Rattle.vortex_normal.proofs.Matched.{matched_as}

-- a property of predicates that each literal has, each node with the children of one that has it, and each child
pub record IsInherited (P : Tree Place → Type 0) : Type 0 where
  pub of_literal : (c : Constant) → P (literal c)
  pub of_binary : (o : Operator) (l r : Tree Place) → P l → P r → P (binary o l r)
  pub of_null : (x : Tree Place) → P x → P (is_null x)
  pub of_not_null : (x : Tree Place) → P x → P (is_not_null x)
  pub of_not : (x : Tree Place) → P x → P (not x)
  pub of_between : (o : BetweenOptions) (x l u : Tree Place) → P x → P l → P u → P (between o x l u)
  pub of_like : (o : LikeOptions) (x p : Tree Place) → P x → P p → P (like o x p)

module _ (P : Tree Place → Type 0) (i : IsInherited P) where
  settled_kept : (q : Tree Place) → P q → P (settled q)
  settled_kept q h = settled_as P q h (λ _ _. i.of_literal _)

  folded_kept : (e : Tree Place) → P e → P (folded e)
  folded_kept e h = folded_as P e h (λ _ _ _. i.of_literal _)

  ended_kept : (o : Operator) (l r : Tree Place) → P l → P r → P (ended o l r)
  ended_kept o l r h k =
      ended_as P o l r (i.of_literal _) (λ c s. i.of_not_null (column c) (at_column c s)) (λ c s b. i.of_binary Eq (column c) _ (at_column c s) (i.of_literal _)) (i.of_binary o l r h k)
    where
      at_column : (c : Place) → (l ≡ column c) ⊎ (r ≡ column c) → P (column c)
      at_column c (inl e) = subst P e h
      at_column c (inr e) = subst P e k

  of_kept : (o : Operator) (l r : Tree Place) → P l → P r → P (comparison_of o l r)
  of_kept o l r h k =
      comparison_as P o l r (λ _. i.of_literal _) (λ _ _. settled_kept (is_not_null l) (i.of_not_null l h)) (λ _ _. i.of_literal _) (settled_kept (ended o l r) (ended_kept o l r h k))

  comparison_kept : (o : Operator) (l r : Tree Place) → P l → P r → P (comparison o l r)
  unfolding comparison
  comparison_kept o l r h k = of_kept o (folded l) (folded r) (folded_kept l h) (folded_kept r k)

  two_kept : (w : Bool) (l r : Tree Place) → P l → P r → P (connected w l r)
  two_kept w l r h k = connected_kept P l r h k w (i.of_binary And l r h k) (i.of_binary Or l r h k)

  any_kept : (w : Bool) (x : Tree Place) → P x → P (any_text w x)
  any_kept true x h = settled_kept (is_not_null x) (i.of_not_null x h)
  any_kept false x h = i.of_literal _

  liked_kept : (o : LikeOptions) (x p : Tree Place) → P x → P p → P (liked o x p)
  liked_kept o x p h k =
      liked_as P o x p (λ _. i.of_literal _)
      (λ e is. matched_as P x (λ w op c bs. comparison_kept (operator_as w op) x (bytes_literal bs) h (i.of_literal _)) two_kept (λ w. any_kept w x h) o p e is)
      (λ _. settled_kept (like o x p) (i.of_like o x p h k))

  null_kept : (w : Bool) (x : Tree Place) → P x → P (null_test w x)
  null_kept true x h = settled_kept (is_null x) (i.of_null x h)
  null_kept false x h = settled_kept (is_not_null x) (i.of_not_null x h)

module _ (test : Place → Bool) where
  abbrev pub Holds : Tree Place → Type 0
  Holds e = all_columns test e ≡ true

  pub columns_inherited : IsInherited Holds
  columns_inherited = record {
    of_literal = λ c. refl;
    of_binary = λ o l r h k. both_hold _ _ h k;
    of_null = λ x h. h;
    of_not_null = λ x h. h;
    of_not = λ x h. h;
    of_between = λ o x l u h k m. both_hold _ _ h (both_hold _ _ k m);
    of_like = λ o x p h k. both_hold _ _ h k;
  }

  pub columns_kept : (w : Bool) (e : Tree Place) → all_columns test e ≡ true → all_columns test (pushed w e) ≡ true
  columns_kept w (column c) h = both_hold (test c) true h refl
  columns_kept w (literal c) h = refl
  columns_kept w (binary And l r) h =
      let k = and_parts (all_columns test l) (all_columns test r) h in
      two_kept Holds columns_inherited w (pushed w l) (pushed w r) (columns_kept w l k.0) (columns_kept w r k.1)
  columns_kept w (binary Or l r) h =
      let k = and_parts (all_columns test l) (all_columns test r) h in
      two_kept Holds columns_inherited (not_b w) (pushed w l) (pushed w r) (columns_kept w l k.0) (columns_kept w r k.1)
  columns_kept w (binary Eq l r) h = let k = and_parts (all_columns test l) (all_columns test r) h in comparison_kept Holds columns_inherited (operator_as w Eq) l r k.0 k.1
  columns_kept w (binary NotEq l r) h = let k = and_parts (all_columns test l) (all_columns test r) h in comparison_kept Holds columns_inherited (operator_as w NotEq) l r k.0 k.1
  columns_kept w (binary Gt l r) h = let k = and_parts (all_columns test l) (all_columns test r) h in comparison_kept Holds columns_inherited (operator_as w Gt) l r k.0 k.1
  columns_kept w (binary Gte l r) h = let k = and_parts (all_columns test l) (all_columns test r) h in comparison_kept Holds columns_inherited (operator_as w Gte) l r k.0 k.1
  columns_kept w (binary Lt l r) h = let k = and_parts (all_columns test l) (all_columns test r) h in comparison_kept Holds columns_inherited (operator_as w Lt) l r k.0 k.1
  columns_kept w (binary Lte l r) h = let k = and_parts (all_columns test l) (all_columns test r) h in comparison_kept Holds columns_inherited (operator_as w Lte) l r k.0 k.1
  columns_kept w (between o x l u) h =
      let k = and_parts (all_columns test x) (all_columns test l && all_columns test u) h in
      let m = and_parts (all_columns test l) (all_columns test u) k.1 in
      two_kept Holds columns_inherited w (comparison (operator_as w (to_operator o.lower_strict)) l x) (comparison (operator_as w (to_operator o.upper_strict)) x u)
      (comparison_kept Holds columns_inherited (operator_as w (to_operator o.lower_strict)) l x m.0 k.0) (comparison_kept Holds columns_inherited (operator_as w (to_operator o.upper_strict)) x u k.0 m.1)
  columns_kept w (is_null x) h = null_kept Holds columns_inherited w x h
  columns_kept w (is_not_null x) h = null_kept Holds columns_inherited (not_b w) x h
  columns_kept w (not x) h = columns_kept (not_b w) x h
  columns_kept w (like o x p) h = let k = and_parts (all_columns test x) (all_columns test p) h in liked_kept Holds columns_inherited (like_as w o) x p k.0 k.1
  columns_kept true (stat f x) h = h
  columns_kept false (stat f x) h = h
  columns_kept true row_count h = refl
  columns_kept false row_count h = refl

-- ---- plain predicates

-- a test of placeholders and row counts alone
pub record IsOfLeaves (test : Tree Place → Bool) : Type 0 where
  pub none_column : (c : Place) → test (column c) ≡ false
  pub none_literal : (c : Constant) → test (literal c) ≡ false
  pub none_binary : (o : Operator) (l r : Tree Place) → test (binary o l r) ≡ false
  pub none_between : (o : BetweenOptions) (x l u : Tree Place) → test (between o x l u) ≡ false
  pub none_null : (x : Tree Place) → test (is_null x) ≡ false
  pub none_not_null : (x : Tree Place) → test (is_not_null x) ≡ false
  pub none_not : (x : Tree Place) → test (not x) ≡ false
  pub none_like : (o : LikeOptions) (x p : Tree Place) → test (like o x p) ≡ false

either_none : (a b : Bool) → a ≡ false → b ≡ false → (a || b) ≡ false
either_none true b h k = cc
either_none false b h k = k

module _ (test : Tree Place → Bool) (t : IsOfLeaves test) where
  abbrev pub Lacks : Tree Place → Type 0
  Lacks e = some_node test e ≡ false

  pub nodes_inherited : IsInherited Lacks
  nodes_inherited = record {
    of_literal = λ c. t.none_literal c;
    of_binary = λ o l r h k. either_none _ _ (t.none_binary o l r) (either_none _ _ h k);
    of_null = λ x h. either_none _ _ (t.none_null x) h;
    of_not_null = λ x h. either_none _ _ (t.none_not_null x) h;
    of_not = λ x h. either_none _ _ (t.none_not x) h;
    of_between = λ o x l u h k m. either_none _ _ (t.none_between o x l u) (either_none _ _ h (either_none _ _ k m));
    of_like = λ o x p h k. either_none _ _ (t.none_like o x p) (either_none _ _ h k);
  }

  pub operands_lack : (o : Operator) (l r : Tree Place) → Lacks (binary o l r) → Lacks l × Lacks r
  operands_lack o l r h =
      or_parts (some_node test l) (some_node test r) (or_parts (test (binary o l r)) (some_node test l || some_node test r) h).1

  compared_lack : (w : Bool) (o : Operator) (l r : Tree Place) → Lacks (binary o l r) → Lacks (comparison (operator_as w o) l r)
  compared_lack w o l r h = let k = operands_lack o l r h in comparison_kept Lacks nodes_inherited (operator_as w o) l r k.0 k.1

  or_not_lacks : (e : Tree Place) → Lacks e → Lacks (not e)
  or_not_lacks e h = either_none _ _ (t.none_not e) h

  pub nodes_kept : (w : Bool) (e : Tree Place) → some_node test e ≡ false → some_node test (pushed w e) ≡ false
  nodes_kept w (column c) h = either_none _ _ (t.none_binary Eq _ _) (either_none _ _ h (t.none_literal _))
  nodes_kept w (literal c) h = t.none_literal _
  nodes_kept w (binary And l r) h =
      let k = operands_lack And l r h in
      two_kept Lacks nodes_inherited w (pushed w l) (pushed w r) (nodes_kept w l k.0) (nodes_kept w r k.1)
  nodes_kept w (binary Or l r) h =
      let k = operands_lack Or l r h in
      two_kept Lacks nodes_inherited (not_b w) (pushed w l) (pushed w r) (nodes_kept w l k.0) (nodes_kept w r k.1)
  nodes_kept w (binary Eq l r) h = compared_lack w Eq l r h
  nodes_kept w (binary NotEq l r) h = compared_lack w NotEq l r h
  nodes_kept w (binary Gt l r) h = compared_lack w Gt l r h
  nodes_kept w (binary Gte l r) h = compared_lack w Gte l r h
  nodes_kept w (binary Lt l r) h = compared_lack w Lt l r h
  nodes_kept w (binary Lte l r) h = compared_lack w Lte l r h
  nodes_kept w (between o x l u) h =
      let p = or_parts (test (between o x l u)) (some_node test x || (some_node test l || some_node test u)) h in
      let k = or_parts (some_node test x) (some_node test l || some_node test u) p.1 in
      let m = or_parts (some_node test l) (some_node test u) k.1 in
      two_kept Lacks nodes_inherited w (comparison (operator_as w (to_operator o.lower_strict)) l x) (comparison (operator_as w (to_operator o.upper_strict)) x u)
      (comparison_kept Lacks nodes_inherited (operator_as w (to_operator o.lower_strict)) l x m.0 k.0) (comparison_kept Lacks nodes_inherited (operator_as w (to_operator o.upper_strict)) x u k.0 m.1)
  nodes_kept w (is_null x) h = null_kept Lacks nodes_inherited w x (or_parts (test (is_null x)) (some_node test x) h).1
  nodes_kept w (is_not_null x) h = null_kept Lacks nodes_inherited (not_b w) x (or_parts (test (is_not_null x)) (some_node test x) h).1
  nodes_kept w (not x) h = nodes_kept (not_b w) x (or_parts (test (not x)) (some_node test x) h).1
  nodes_kept w (like o x p) h =
      let k = or_parts (some_node test x) (some_node test p) (or_parts (test (like o x p)) (some_node test x || some_node test p) h).1 in
      liked_kept Lacks nodes_inherited (like_as w o) x p k.0 k.1
  nodes_kept true (stat f x) h = h
  nodes_kept false (stat f x) h = or_not_lacks (stat f x) h
  nodes_kept true row_count h = h
  nodes_kept false row_count h = or_not_lacks row_count h

pub placeholders : IsOfLeaves is_placeholder
placeholders = record { none_column = λ c. refl; none_literal = λ c. refl; none_binary = λ o l r. refl; none_between = λ o x l u. refl; none_null = λ x. refl; none_not_null = λ x. refl; none_not = λ x. refl; none_like = λ o x p. refl }

pub row_counts : IsOfLeaves is_row_count
row_counts = record { none_column = λ c. refl; none_literal = λ c. refl; none_binary = λ o l r. refl; none_between = λ o x l u. refl; none_null = λ x. refl; none_not_null = λ x. refl; none_not = λ x. refl; none_like = λ o x p. refl }

pub plain_kept : (e : Tree Place) → IsTrue (is_plain e) → IsTrue (is_plain (pushed true e))
plain_kept e h =
    let k = and_parts (not_b (has_placeholder e)) (not_b (has_row_count e)) h in
    both_hold _ _
    (ap not_b (nodes_kept is_placeholder placeholders true e (not-true (has_placeholder e) k.0)))
    (ap not_b (nodes_kept is_row_count row_counts true e (not-true (has_row_count e) k.1)))
