-- The normal form of a predicate over one column is one set of the column's values, and bounds decide it.
use Rattle.std.proofs.Common.{◌≡◌, ◌⊎◌, inl, inr, Bool, true, false, not as not_b, ◌&&◌, ◌||◌, List, [], ◌∷◌, Option, Some, None, refl, sym, ap, ◌∙◌, subst, subst₂, if◌then◌else◌}
use Rattle.std.specs.Prelude.{is_none}
use Rattle.std.specs.Option.{is_some}
use Rattle.std.proofs.lemmas.Bool.{and_parts, not-true, or_parts}
use Rattle.vortex_expr.specs.Meanings.Meaning.{meaning, satisfies}
use Rattle.vortex_base.specs.declared.dtype.DType.TheVariants as dtype
use Rattle.vortex_base.specs.declared.types.Nullability.TheVariants.{Nullable}
use Rattle.vortex_base.specs.Data.Exact.{both_hold}
use Rattle.vortex_base.specs.Data.Scalars.{Constant}
use Rattle.vortex_expr.specs.Trees.Between.{to_operator}
use Rattle.vortex_expr.specs.Trees.Tree.{Tree, Place, column, literal, binary, between, is_null, is_not_null, not, like, stat, row_count, has_bare_column, is_plain}
use Rattle.vortex_expr.specs.Trees.TreeEq.{place_eq, tree_eq, tree_eq_is_exact}
use Rattle.vortex_base.specs.declared.scalar_value.ScalarValue.{ScalarValue}
use Rattle.vortex_expr.specs.declared.like.LikeOptions.{LikeOptions}
use Rattle.vortex_expr.specs.declared.scalar_fn.Operator.{Operator}
use Rattle.vortex_expr.specs.declared.scalar_fn.Operator.TheVariants.{Eq, NotEq, Gt, Gte, Lt, Lte, And, Or}
use Rattle.vortex_rewrite.proofs.Completeness.Interval.{is_comparison}
use Rattle.vortex_rewrite.proofs.Soundness.TruthLogic.{clash}
use Rattle.vortex_rewrite.specs.Rewriting.Falsifiers.{bool_literal, bytes_literal}
use Rattle.vortex_rewrite.specs.Rewriting.ReadOnce.{is_simple_binary}
use Rattle.vortex_normal.specs.Ends.{ended, is_the_truth}
use Rattle.vortex_normal.specs.Groups.{Item, inside, other, add, as_one, binary_item, collected, compared_item, leaf_item, widened}
use Rattle.vortex_normal.specs.Intervals.{Interval, combined, swapped}
use Rattle.vortex_normal.specs.OneColumn.{is_constant, is_operand_over, is_over}
use Rattle.vortex_normal.specs.Pushed.{any_text, as_comparisons, comparison, comparison_of, connected, decided, folded, is_literal, is_reflexive, like_as, liked, null_test, operator_as, pushed, settled}
use Rattle.vortex_normal.proofs.Columns.{same_place}
use Rattle.vortex_normal.proofs.TypeEnds.{ended_as}
use Rattle.vortex_normal.proofs.Forms.{if_as, liked_as}
use Rattle.vortex_normal.proofs.Matched.{matched_as, still_matched}
use Rattle.vortex_normal.proofs.Truths.{IsTruthOr, connected_truth_or}
use Rattle.vortex_normal.proofs.Told.{end_compares, still_compares}

-- ---- places

pub itself : (c : Place) → place_eq c c ≡ true
itself c = (tree_eq_is_exact (column c) (column c)).1 refl

-- ---- pushed down, it is a literal, or a tree of AND and OR over what is said of the column by literals that aren't null

compares_simple : (o : Operator) (a b : Bool) → is_comparison o ≡ true → is_simple_binary o a b ≡ b
compares_simple Eq a b c = refl
compares_simple NotEq a b c = refl
compares_simple Gt a b c = refl
compares_simple Gte a b c = refl
compares_simple Lt a b c = refl
compares_simple Lte a b c = refl
compares_simple And a b c = cc
compares_simple Or a b c = cc

some_if : (v : Option ScalarValue) → is_none v ≡ false → is_some v ≡ true
some_if None h = cc
some_if (Some v) h = refl

module _ (c : Place) where
  abbrev pub is_the_column : Tree Place → Bool
  is_the_column (column d) = place_eq c d
  is_the_column e = false

  abbrev pub is_said : (l r : Tree Place) → Bool
  is_said (column d) (literal v) = place_eq c d && is_some v.value
  is_said (literal v) (column d) = place_eq c d && is_some v.value
  is_said l r = false

  abbrev pub is_chain : Tree Place → Bool
  is_chain (binary o l r) = is_simple_binary o (is_chain l && is_chain r) (is_said l r)
  is_chain (is_null x) = is_the_column x
  is_chain (is_not_null x) = is_the_column x
  is_chain e = false

  pub undecided : (e : Tree Place) → is_chain e ≡ true → decided e ≡ None
  undecided (column d) h = cc
  undecided (literal v) h = cc
  undecided (binary o l r) h = refl
  undecided (between o x l u) h = cc
  undecided (is_null x) h = refl
  undecided (is_not_null x) h = refl
  undecided (not x) h = cc
  undecided (like o x p) h = cc
  undecided (stat f x) h = cc
  undecided row_count h = cc

  abbrev pub IsPushed : Tree Place → Type 0
  IsPushed e = IsTruthOr (λ x. is_chain x ≡ true) undecided e

  connected_pushed : (w : Bool) (l r : Tree Place) → IsPushed l → IsPushed r → IsPushed (connected w l r)
  connected_pushed w l r h k = connected_truth_or (λ x. is_chain x ≡ true) undecided w l r (λ a b. both_hold _ _ a b) (λ a b. both_hold _ _ a b) h k

  said : (o : Operator) (l r : Tree Place) → is_comparison o ≡ true → is_said l r ≡ true → IsPushed (binary o l r)
  said o l r k h = inr (compares_simple o (is_chain l && is_chain r) (is_said l r) k ∙ h)

  -- the column, or a literal
  abbrev is_folded : Tree Place → Bool
  is_folded (column d) = place_eq c d
  is_folded (literal v) = true
  is_folded e = false

  -- what isn't a literal has no column and no placeholder, so it is folded
  constant_folded : (e : Tree Place) → is_literal e ≡ false → is_constant e ≡ true → is_folded (folded e) ≡ true
  unfolding folded
  constant_folded e l h =
      let k = and_parts (not_b (has_bare_column e)) (is_plain e) h in
      let no : (is_literal e || (has_bare_column e || not_b (is_plain e))) ≡ false = λ i. l i || (not-true (has_bare_column e) k.0 i || not_b (k.1 i)) in
      if_as (λ x. is_folded x ≡ true) (is_literal e || (has_bare_column e || not_b (is_plain e))) e (literal (record { dtype = dtype.Bool Nullable; value = meaning e [] 0 })) (λ yes. clash yes no) (λ _. refl)

  operand_folded : (e : Tree Place) → is_operand_over c e ≡ true → is_folded (folded e) ≡ true
  unfolding folded
  operand_folded (column d) h = h
  operand_folded (literal v) h = refl
  operand_folded (binary o l r) h = constant_folded (binary o l r) refl h
  operand_folded (between o x l u) h = constant_folded (between o x l u) refl h
  operand_folded (is_null x) h = constant_folded (is_null x) refl h
  operand_folded (is_not_null x) h = constant_folded (is_not_null x) refl h
  operand_folded (not x) h = constant_folded (not x) refl h
  operand_folded (like o x p) h = constant_folded (like o x p) refl h
  operand_folded (stat f x) h = cc
  operand_folded row_count h = cc

  -- a comparison of the column with a value, by the ends of its type

  column_or : (P : Type 0) (d f : Place) (v : Constant) → place_eq c d ≡ true → (place_eq c f ≡ true → P) → (column d ≡ column f) ⊎ (literal v ≡ column f) → P
  column_or P d f v h g (inl e) = g (subst (λ x. is_the_column x ≡ true) e h)
  column_or P d f v h g (inr e) = absurd cc

  ended_first : (o : Operator) (d : Place) (v : Constant) → place_eq c d ≡ true → IsPushed (binary o (column d) (literal v)) → IsPushed (settled (ended o (column d) (literal v)))
  unfolding settled
  ended_first o d v h k =
      ended_as (λ e. IsPushed (settled e)) o (column d) (literal v) (inl (false, refl))
      (λ f s. column_or (IsPushed (is_not_null (column f))) d f v h (λ e. inr e) s)
      (λ f s b. column_or (IsPushed (is_the_truth f b)) d f v h (λ e. inr (both_hold _ _ e refl)) s)
      k

  ended_last : (o : Operator) (d : Place) (v : Constant) → place_eq c d ≡ true → IsPushed (binary o (literal v) (column d)) → IsPushed (settled (ended o (literal v) (column d)))
  unfolding settled
  ended_last o d v h k =
      ended_as (λ e. IsPushed (settled e)) o (literal v) (column d) (inl (false, refl))
      (λ f s. column_or (IsPushed (is_not_null (column f))) d f v h (λ e. inr e) (turned s))
      (λ f s b. column_or (IsPushed (is_the_truth f b)) d f v h (λ e. inr (both_hold _ _ e refl)) (turned s))
      k
    where
      turned : {A B : Type 0} → A ⊎ B → B ⊎ A
      turned (inl a) = inr a
      turned (inr b) = inl b

  ended_literals : (o : Operator) (u v : Constant) → is_comparison o ≡ true → IsPushed (settled (ended o (literal u) (literal v)))
  unfolding settled
  ended_literals Eq u v k = inl (_, refl)
  ended_literals NotEq u v k = inl (_, refl)
  ended_literals Gt u v k = inl (_, refl)
  ended_literals Gte u v k = inl (_, refl)
  ended_literals Lt u v k = inl (_, refl)
  ended_literals Lte u v k = inl (_, refl)
  ended_literals And u v k = cc
  ended_literals Or u v k = cc

  of_pushed : (o : Operator) (l r : Tree Place) → is_comparison o ≡ true → is_folded l ≡ true → is_folded r ≡ true → IsPushed (comparison_of o l r)
  unfolding comparison_of settled
  of_pushed o (column d) (column e) k h i =
      let same : place_eq d e ≡ true = subst₂ (λ x y. place_eq x y ≡ true) (same_place c d h) (same_place c e i) (itself c) in
      if_as IsPushed (place_eq d e) (if is_reflexive o then is_not_null (column d) else bool_literal false) (settled (ended o (column d) (column e)))
      (λ _. if_as IsPushed (is_reflexive o) (is_not_null (column d)) (bool_literal false) (λ _. inr h) (λ _. inl (false, refl)))
      (λ other. clash same other)
  of_pushed o (column d) (literal v) k h i =
      if_as IsPushed (is_none v.value) (bool_literal false) (settled (ended o (column d) (literal v)))
      (λ _. inl (false, refl))
      (λ some. ended_first o d v h (said o (column d) (literal v) k (both_hold _ _ h (some_if v.value some))))
  of_pushed o (literal v) (column d) k h i =
      if_as IsPushed (is_none v.value || false) (bool_literal false) (settled (ended o (literal v) (column d)))
      (λ _. inl (false, refl))
      (λ some. ended_last o d v i (said o (literal v) (column d) k (both_hold _ _ i (some_if v.value (or_parts (is_none v.value) false some).0))))
  of_pushed o (literal u) (literal v) k h i =
      if_as IsPushed (is_none u.value || is_none v.value) (bool_literal false)
      (if tree_eq (literal u) (literal v) then (if is_reflexive o then settled (is_not_null (literal u)) else bool_literal false) else settled (ended o (literal u) (literal v)))
      (λ _. inl (false, refl))
      (λ _. if_as IsPushed (tree_eq (literal u) (literal v)) (if is_reflexive o then settled (is_not_null (literal u)) else bool_literal false) (settled (ended o (literal u) (literal v)))
      (λ _. if_as IsPushed (is_reflexive o) (settled (is_not_null (literal u))) (bool_literal false) (λ _. inl (_, refl)) (λ _. inl (false, refl)))
      (λ _. ended_literals o u v k))
  of_pushed o l r k h i = cc

  compared_pushed : (o : Operator) (l r : Tree Place) → is_comparison o ≡ true → is_operand_over c l ≡ true → is_operand_over c r ≡ true → IsPushed (comparison o l r)
  unfolding comparison
  compared_pushed o l r k h i = of_pushed o (folded l) (folded r) k (operand_folded l h) (operand_folded r i)

  -- a null test of what has no column is settled
  constant_pushed : (q : Tree Place) → is_constant q ≡ true → IsPushed (settled q)
  unfolding settled
  constant_pushed q h =
      let k = and_parts (not_b (has_bare_column q)) (is_plain q) h in
      let no : (has_bare_column q || not_b (is_plain q)) ≡ false = λ i. not-true (has_bare_column q) k.0 i || not_b (k.1 i) in
      if_as IsPushed (has_bare_column q || not_b (is_plain q)) q (bool_literal (satisfies q [] 0)) (λ yes. clash yes no) (λ _. inl (_, refl))

  null_of_constant : (w : Bool) (x : Tree Place) → is_constant x ≡ true → IsPushed (null_test w x)
  null_of_constant true x h = constant_pushed (is_null x) h
  null_of_constant false x h = constant_pushed (is_not_null x) h

  null_pushed : (w : Bool) (x : Tree Place) → is_operand_over c x ≡ true → IsPushed (null_test w x)
  unfolding settled
  null_pushed true (column d) h = inr h
  null_pushed false (column d) h = inr h
  null_pushed w (literal v) h = null_of_constant w (literal v) refl
  null_pushed w (binary o l r) h = null_of_constant w (binary o l r) h
  null_pushed w (between o x l u) h = null_of_constant w (between o x l u) h
  null_pushed w (is_null x) h = null_of_constant w (is_null x) h
  null_pushed w (is_not_null x) h = null_of_constant w (is_not_null x) h
  null_pushed w (not x) h = null_of_constant w (not x) h
  null_pushed w (like o x p) h = null_of_constant w (like o x p) h
  null_pushed w (stat f x) h = cc
  null_pushed w row_count h = cc

  comparison_pushed : (w : Bool) (o : Operator) (l r : Tree Place) → is_comparison o ≡ true → (is_operand_over c l && is_operand_over c r) ≡ true → IsPushed (comparison (operator_as w o) l r)
  comparison_pushed w o l r k h =
      let i = and_parts (is_operand_over c l) (is_operand_over c r) h in
      compared_pushed (operator_as w o) l r (still_compares w o k) i.0 i.1

  any_pushed : (w : Bool) (x : Tree Place) → is_operand_over c x ≡ true → IsPushed (any_text w x)
  any_pushed true x h = null_pushed false x h
  any_pushed false x h = inl (false, refl)

  -- a LIKE that comparisons say
  liked_pushed : (o : LikeOptions) (x p : Tree Place) → is_some (as_comparisons o x p) ≡ true → is_operand_over c x ≡ true → IsPushed (liked o x p)
  liked_pushed o x p s h =
      liked_as IsPushed o x p (λ _. inl (false, refl))
      (λ e is. matched_as IsPushed x (λ w op k bs. compared_pushed (operator_as w op) x (bytes_literal bs) (still_compares w op k) h refl) connected_pushed (λ w. any_pushed w x h) o p e is)
      (λ none. clash s (ap is_some none))

  pub pushed_over : (w : Bool) (p : Tree Place) → is_over c p ≡ true → IsPushed (pushed w p)
  pushed_over w (column d) h = inr (both_hold _ _ h refl)
  pushed_over w (literal v) h = inl (_, refl)
  pushed_over w (binary And l r) h =
      let i = and_parts (is_over c l) (is_over c r) h in
      connected_pushed w (pushed w l) (pushed w r) (pushed_over w l i.0) (pushed_over w r i.1)
  pushed_over w (binary Or l r) h =
      let i = and_parts (is_over c l) (is_over c r) h in
      connected_pushed (not_b w) (pushed w l) (pushed w r) (pushed_over w l i.0) (pushed_over w r i.1)
  pushed_over w (binary Eq l r) h = comparison_pushed w Eq l r refl h
  pushed_over w (binary NotEq l r) h = comparison_pushed w NotEq l r refl h
  pushed_over w (binary Gt l r) h = comparison_pushed w Gt l r refl h
  pushed_over w (binary Gte l r) h = comparison_pushed w Gte l r refl h
  pushed_over w (binary Lt l r) h = comparison_pushed w Lt l r refl h
  pushed_over w (binary Lte l r) h = comparison_pushed w Lte l r refl h
  pushed_over w (between o x l u) h =
      let i = and_parts (is_operand_over c x) (is_operand_over c l && is_operand_over c u) h in
      let j = and_parts (is_operand_over c l) (is_operand_over c u) i.1 in
      connected_pushed w (comparison (operator_as w (to_operator o.lower_strict)) l x) (comparison (operator_as w (to_operator o.upper_strict)) x u)
      (comparison_pushed w (to_operator o.lower_strict) l x (end_compares o.lower_strict) (both_hold _ _ j.0 i.0))
      (comparison_pushed w (to_operator o.upper_strict) x u (end_compares o.upper_strict) (both_hold _ _ i.0 j.1))
  pushed_over w (is_null x) h = null_pushed w x h
  pushed_over w (is_not_null x) h = null_pushed (not_b w) x h
  pushed_over w (not x) h = pushed_over (not_b w) x h
  pushed_over w (like o x p) h =
      let i = and_parts (is_some (as_comparisons o x p)) (is_operand_over c x) h in
      liked_pushed (like_as w o) x p (still_matched w o x p i.0) i.1
  pushed_over w (stat f x) h = cc
  pushed_over w row_count h = cc

  -- ---- such a tree is one item of the column

  abbrev pub IsSaid : Item → Type 0
  IsSaid (inside d m iss) = d ≡ c
  IsSaid (other e) = ⊥

  abbrev pub IsOne : List Item → Type 0
  IsOne [] = ⊥
  IsOne (x ∷ []) = IsSaid x
  IsOne (x ∷ y ∷ xs) = ⊥

  abbrev pub IsAtMostOne : List Item → Type 0
  IsAtMostOne [] = Unit {0}
  IsAtMostOne (x ∷ []) = IsSaid x
  IsAtMostOne (x ∷ y ∷ xs) = ⊥

  at_most_one : (xs : List Item) → IsOne xs → IsAtMostOne xs
  at_most_one [] h = tt
  at_most_one (x ∷ []) h = h
  at_most_one (x ∷ y ∷ xs) h = h

  widened_one : (w : Bool) (d f : Place) (m k : Bool) (iss jss : List (List Interval)) → d ≡ c → f ≡ c → (b : Bool) → place_eq d f ≡ b
      → IsOne (if b then widened w m iss (inside f k jss) ∷ [] else inside f k jss ∷ inside d m iss ∷ [])
  widened_one w d f m k iss jss h i true e = i
  widened_one w d f m k iss jss h i false e = clash (subst₂ (λ x y. place_eq x y ≡ true) (sym h) (sym i) (itself c)) e

  add_one : (w : Bool) (x : Item) (ys : List Item) → IsSaid x → IsAtMostOne ys → IsOne (add w x ys)
  add_one w (inside d m iss) [] h k = h
  add_one w (inside d m iss) (inside f n jss ∷ []) h k = widened_one w d f m n iss jss h k (place_eq d f) refl
  add_one w (inside d m iss) (other e ∷ []) h k = absurd k
  add_one w (inside d m iss) (x ∷ y ∷ xs) h k = absurd k
  add_one w (other e) ys h k = absurd h

  as_one_said : (v : Bool) (xs : List Item) → IsOne xs → IsSaid (as_one v xs)
  as_one_said v [] h = absurd h
  as_one_said v (inside d m iss ∷ []) h = h
  as_one_said v (other e ∷ []) h = absurd h
  as_one_said v (x ∷ y ∷ xs) h = absurd h

  compared_said : (o : Operator) (d : Place) (v : Option ScalarValue) (e : Tree Place) → is_comparison o ≡ true → is_some v ≡ true → d ≡ c → IsSaid (compared_item o d v e)
  compared_said o d None e k s h = cc
  compared_said Eq d (Some v) e k s h = h
  compared_said NotEq d (Some v) e k s h = h
  compared_said Gt d (Some v) e k s h = h
  compared_said Gte d (Some v) e k s h = h
  compared_said Lt d (Some v) e k s h = h
  compared_said Lte d (Some v) e k s h = h
  compared_said And d (Some v) e k s h = cc
  compared_said Or d (Some v) e k s h = cc

  still : (o : Operator) → is_comparison o ≡ true → is_comparison (swapped o) ≡ true
  still Eq k = refl
  still NotEq k = refl
  still Gt k = refl
  still Gte k = refl
  still Lt k = refl
  still Lte k = refl
  still And k = cc
  still Or k = cc

  binary_said : (o : Operator) (l r e : Tree Place) → is_comparison o ≡ true → is_said l r ≡ true → IsSaid (binary_item o l r e)
  binary_said o (column d) (literal v) e k h =
      let i = and_parts (place_eq c d) (is_some v.value) h in
      compared_said o d v.value e k i.1 (sym (same_place c d i.0))
  binary_said o (literal v) (column d) e k h =
      let i = and_parts (place_eq c d) (is_some v.value) h in
      compared_said (swapped o) d v.value e (still o k) i.1 (sym (same_place c d i.0))
  binary_said o l r e k h = cc

  lone_said : (w : Bool) (o : Operator) (l r : Tree Place) (xs : List Item) → is_comparison o ≡ true → is_said l r ≡ true → IsAtMostOne xs → IsOne (add w (leaf_item (binary o l r)) xs)
  lone_said w o l r xs k h i = add_one w (leaf_item (binary o l r)) xs (binary_said o l r (binary o l r) k h) i

  null_said : (x : Tree Place) → is_the_column x ≡ true → IsSaid (leaf_item (is_null x)) × IsSaid (leaf_item (is_not_null x))
  null_said (column d) h = let e = sym (same_place c d h) in (e, e)
  null_said x h = cc

  pub collected_one : (w : Bool) (e : Tree Place) (xs : List Item) → is_chain e ≡ true → IsAtMostOne xs → IsOne (collected w e xs)
  collected_one true (binary And l r) xs h k =
      let i = and_parts (is_chain l) (is_chain r) h in
      collected_one true r (collected true l xs) i.1 (at_most_one (collected true l xs) (collected_one true l xs i.0 k))
  collected_one false (binary And l r) xs h k =
      let i = and_parts (is_chain l) (is_chain r) h in
      let inner = collected true r (collected true l []) in
      add_one false (as_one true inner) xs (as_one_said true inner (collected_one true r (collected true l []) i.1 (at_most_one (collected true l []) (collected_one true l [] i.0 tt)))) k
  collected_one true (binary Or l r) xs h k =
      let i = and_parts (is_chain l) (is_chain r) h in
      let inner = collected false r (collected false l []) in
      add_one true (as_one false inner) xs (as_one_said false inner (collected_one false r (collected false l []) i.1 (at_most_one (collected false l []) (collected_one false l [] i.0 tt)))) k
  collected_one false (binary Or l r) xs h k =
      let i = and_parts (is_chain l) (is_chain r) h in
      collected_one false r (collected false l xs) i.1 (at_most_one (collected false l xs) (collected_one false l xs i.0 k))
  collected_one w (binary Eq l r) xs h k = lone_said w Eq l r xs refl h k
  collected_one w (binary NotEq l r) xs h k = lone_said w NotEq l r xs refl h k
  collected_one w (binary Gt l r) xs h k = lone_said w Gt l r xs refl h k
  collected_one w (binary Gte l r) xs h k = lone_said w Gte l r xs refl h k
  collected_one w (binary Lt l r) xs h k = lone_said w Lt l r xs refl h k
  collected_one w (binary Lte l r) xs h k = lone_said w Lte l r xs refl h k
  collected_one w (is_null x) xs h k = add_one w (leaf_item (is_null x)) xs (null_said x h).0 k
  collected_one w (is_not_null x) xs h k = add_one w (leaf_item (is_not_null x)) xs (null_said x h).1 k
  collected_one w (column d) xs h k = cc
  collected_one w (literal v) xs h k = cc
  collected_one w (between o x l u) xs h k = cc
  collected_one w (not x) xs h k = cc
  collected_one w (like o x p) xs h k = cc
  collected_one w (stat f x) xs h k = cc
  collected_one w row_count xs h k = cc

  pub the_one : (xs : List Item) → IsOne xs → (m : Bool) × (iss : List (List Interval)) × (xs ≡ inside c m iss ∷ [])
  the_one [] h = absurd h
  the_one (inside d m iss ∷ []) h = (m, iss, ap (λ x. inside x m iss ∷ []) h)
  the_one (other e ∷ []) h = absurd h
  the_one (x ∷ y ∷ xs) h = absurd h

  -- it comes to the same one item in a chain by AND and by OR

  compared_alone : (w : Bool) (o : Operator) (d : Place) (v : Option ScalarValue) (e : Tree Place) → as_one w (add w (compared_item o d v e) []) ≡ as_one true (add true (compared_item o d v e) [])
  compared_alone w And d v e = refl
  compared_alone w Or d v e = refl
  compared_alone w Eq d (Some v) e = refl
  compared_alone w NotEq d (Some v) e = refl
  compared_alone w Gt d (Some v) e = refl
  compared_alone w Gte d (Some v) e = refl
  compared_alone w Lt d (Some v) e = refl
  compared_alone w Lte d (Some v) e = refl
  compared_alone w Eq d None e = refl
  compared_alone w NotEq d None e = refl
  compared_alone w Gt d None e = refl
  compared_alone w Gte d None e = refl
  compared_alone w Lt d None e = refl
  compared_alone w Lte d None e = refl

  binary_alone : (w : Bool) (o : Operator) (l r e : Tree Place) → as_one w (add w (binary_item o l r e) []) ≡ as_one true (add true (binary_item o l r e) [])
  binary_alone w o (column d) (literal v) e = compared_alone w o d v.value e
  binary_alone w o (literal v) (column d) e = compared_alone w (swapped o) d v.value e
  binary_alone w o l r e = refl

  null_alone : (w : Bool) (x : Tree Place) → as_one w (add w (leaf_item (is_null x)) []) ≡ as_one true (add true (leaf_item (is_null x)) [])
  null_alone w (column d) = refl
  null_alone w x = refl

  some_alone : (w : Bool) (x : Tree Place) → as_one w (add w (leaf_item (is_not_null x)) []) ≡ as_one true (add true (leaf_item (is_not_null x)) [])
  some_alone w (column d) = refl
  some_alone w x = refl

  one_alone : (v w : Bool) (xs : List Item) → IsOne xs → as_one v (add v (as_one w xs) []) ≡ as_one w xs
  one_alone v w [] h = absurd h
  one_alone v w (inside d m iss ∷ []) h = refl
  one_alone v w (other e ∷ []) h = absurd h
  one_alone v w (x ∷ y ∷ xs) h = absurd h

  pub alone_same : (w : Bool) (e : Tree Place) → is_chain e ≡ true → as_one w (collected w e []) ≡ as_one true (collected true e [])
  alone_same true e h = refl
  alone_same false (binary And l r) h =
      one_alone false true (collected true r (collected true l [])) (collected_one true (binary And l r) [] h tt)
  alone_same false (binary Or l r) h =
      sym (one_alone true false (collected false r (collected false l [])) (collected_one false (binary Or l r) [] h tt))
  alone_same false (binary Eq l r) h = binary_alone false Eq l r (binary Eq l r)
  alone_same false (binary NotEq l r) h = binary_alone false NotEq l r (binary NotEq l r)
  alone_same false (binary Gt l r) h = binary_alone false Gt l r (binary Gt l r)
  alone_same false (binary Gte l r) h = binary_alone false Gte l r (binary Gte l r)
  alone_same false (binary Lt l r) h = binary_alone false Lt l r (binary Lt l r)
  alone_same false (binary Lte l r) h = binary_alone false Lte l r (binary Lte l r)
  alone_same false (is_null x) h = null_alone false x
  alone_same false (is_not_null x) h = some_alone false x
  alone_same false (column d) h = cc
  alone_same false (literal v) h = cc
  alone_same false (between o x l u) h = cc
  alone_same false (not x) h = cc
  alone_same false (like o x p) h = cc
  alone_same false (stat f x) h = cc
  alone_same false row_count h = cc

  -- whether null counts in such an item, and its set

  abbrev null_counts : Item → Bool
  null_counts (inside d m iss) = m
  null_counts (other e) = false

  abbrev first_set : Item → List Interval
  first_set (inside d m (is ∷ iss)) = is
  first_set x = []

  module _ (w : Bool) (e : Tree Place) (m n : Bool) (iss jss : List (List Interval)) (h : is_chain e ≡ true) (own : collected w e [] ≡ inside c m iss ∷ []) (one : collected true e [] ≡ inside c n jss ∷ []) where
    same_item : inside c m (combined w iss ∷ []) ≡ inside c n (combined true jss ∷ [])
    same_item = sym (ap (as_one w) own) ∙ alone_same w e h ∙ ap (as_one true) one

    pub same_null : m ≡ n
    same_null = ap null_counts same_item

    pub same_set : combined w iss ≡ combined true jss
    same_set = ap first_set same_item
