-- Strict predicates are satisfied by the same rows: a predicate that is true has values where its columns are compared.
use Rattle.std.proofs.Common.{◌≡◌, ℕ, Bool, true, false, not as not_b, ◌&&◌, ◌||◌, List, Option, Some, None, refl, sym, ap, ap₂, ◌∙◌, subst, if◌then◌else◌}
use Rattle.std.specs.Prelude.{is_none}
use Rattle.std.proofs.lemmas.Bool.{and_parts, or_cases}
use Rattle.std.proofs.Common.{⊎_elim}
use Rattle.std.proofs.lemmas.Option.{same_Some, none-some}
use Rattle.vortex_base.specs.Data.Scalars.{Constant}
use Rattle.vortex_base.specs.declared.scalar_value.ScalarValue.{ScalarValue}
use Rattle.vortex_expr.specs.Meanings.Meaning.{both, compared, is_like, is_true, meaning, satisfies, truth_value, unless_null}
use Rattle.vortex_expr.specs.Trees.Between.{to_operator}
use Rattle.vortex_expr.specs.Trees.Tree.{Tree, Place, column, literal, binary, between, is_not_null, like}
use Rattle.vortex_expr.specs.Trees.TreeEq.{tree_eq, tree_eq_is_exact}
use Rattle.vortex_expr.specs.declared.scalar_fn.BetweenOptions.{BetweenOptions}
use Rattle.vortex_expr.specs.declared.scalar_fn.Operator.{Operator}
use Rattle.vortex_expr.specs.declared.scalar_fn.Operator.TheVariants.{Eq, NotEq, Gt, Gte, Lt, Lte, And, Or}
use Rattle.vortex_rewrite.proofs.Completeness.Decided.{comparison_applied}
use Rattle.vortex_rewrite.proofs.Completeness.Interval.{is_comparison}
use Rattle.vortex_rewrite.proofs.Soundness.TruthLogic.{true_and, true_or}
use Rattle.vortex_normal.specs.LeafColumns.{column_beside, range_column}
use Rattle.vortex_normal.specs.Strict.{agreed, body, both_valued, rests_on, sides_valued, strict, valued}

-- ---- truths of operands that have values

values_of : (test : ScalarValue → ScalarValue → Bool) (a b : Option ScalarValue) → is_true (truth_value (unless_null test a b)) ≡ true → (is_none a ≡ false) × (is_none b ≡ false)
values_of test (Some a) (Some b) h = (refl, refl)
values_of test (Some a) None h = cc
values_of test None b h = cc

both_true_left : (a b : Option Bool) → is_true (truth_value (both a b)) ≡ true → is_true (truth_value a) ≡ true
both_true_left (Some true) b h = refl
both_true_left (Some false) b h = h
both_true_left None (Some true) h = h
both_true_left None (Some false) h = h
both_true_left None None h = h

-- what is true only where something is so loses nothing by it
and_implied : (a b : Bool) → (a ≡ true → b ≡ true) → (a && b) ≡ a
and_implied true b f = f refl
and_implied false b f = refl

agreed_left : (b : Bool) (c d : Tree Place) → (if b then Some c else None) ≡ Some d → (b ≡ true) × (c ≡ d)
agreed_left true c d h = (refl, same_Some _ _ h)
agreed_left false c d h = absurd (none-some d h)

pub agreed_both : (a b : Option (Tree Place)) (d : Tree Place) → agreed a b ≡ Some d → (a ≡ Some d) × (b ≡ Some d)
agreed_both (Some c) (Some e) d h =
    let k = agreed_left (tree_eq c e) c d h in
    (ap Some k.1, ap Some (sym ((tree_eq_is_exact c e).0 k.0) ∙ k.1))
agreed_both (Some c) None d h = absurd (none-some d h)
agreed_both None b d h = absurd (none-some d h)

module _ (row : List Constant) (n : ℕ) where
  abbrev HasValue : Tree Place → Type 0
  HasValue c = is_none (meaning c row n) ≡ false

  compared_values : (o : Operator) (l r : Tree Place) → is_comparison o ≡ true → satisfies (binary o l r) row n ≡ true → HasValue l × HasValue r
  compared_values o l r k h =
      values_of _ (meaning l row n) (meaning r row n) (ap (λ t. is_true (truth_value t)) (sym (comparison_applied o (meaning l row n) (meaning r row n) k)) ∙ h)

  -- the column of a pair, where both have values
  beside_value : (x y c : Tree Place) → column_beside x y ≡ Some c → HasValue x → HasValue y → HasValue c
  beside_value (column d) (literal e) c is h k = subst HasValue (same_Some _ _ is) h
  beside_value (literal e) (column d) c is h k = subst HasValue (same_Some _ _ is) k
  beside_value x y c is h k = absurd (none-some c is)

  -- of a column between literals, which is compared with the lower one
  ranged_value : (o : BetweenOptions) (x l u c : Tree Place) → range_column x l u ≡ Some c → satisfies (between o x l u) row n ≡ true → HasValue c
  ranged_value o (column d) (literal e) (literal f) c is h =
      let lower = compared (to_operator o.lower_strict) e.value (meaning (column d) row n) in
      let upper = compared (to_operator o.upper_strict) (meaning (column d) row n) f.value in
      subst HasValue (same_Some _ _ is) (values_of _ e.value (meaning (column d) row n) (both_true_left lower upper h)).1
  ranged_value o x l u c is h = absurd (none-some c is)

  rests_value : (e c : Tree Place) → rests_on e ≡ Some c → satisfies e row n ≡ true → HasValue c
  rests_value (binary And l r) c is h =
      let k = agreed_both (rests_on l) (rests_on r) c is in
      rests_value l c k.0 (and_parts (satisfies l row n) (satisfies r row n) (sym (true_and (meaning l row n) (meaning r row n)) ∙ h)).0
  rests_value (binary Or l r) c is h =
      let k = agreed_both (rests_on l) (rests_on r) c is in
      ⊎_elim (λ a. rests_value l c k.0 a) (λ b. rests_value r c k.1 b) (or_cases (satisfies l row n) (satisfies r row n) (sym (true_or (meaning l row n) (meaning r row n)) ∙ h))
  rests_value (binary Eq l r) c is h = let v = compared_values Eq l r refl h in beside_value l r c is v.0 v.1
  rests_value (binary NotEq l r) c is h = let v = compared_values NotEq l r refl h in beside_value l r c is v.0 v.1
  rests_value (binary Gt l r) c is h = let v = compared_values Gt l r refl h in beside_value l r c is v.0 v.1
  rests_value (binary Gte l r) c is h = let v = compared_values Gte l r refl h in beside_value l r c is v.0 v.1
  rests_value (binary Lt l r) c is h = let v = compared_values Lt l r refl h in beside_value l r c is v.0 v.1
  rests_value (binary Lte l r) c is h = let v = compared_values Lte l r refl h in beside_value l r c is v.0 v.1
  rests_value (between o x l u) c is h = ranged_value o x l u c is h
  rests_value (like o x p) c is h = let v = values_of (is_like o) (meaning x row n) (meaning p row n) h in beside_value x p c is v.0 v.1
  rests_value e c is h = absurd (none-some c is)

  -- ---- tests of values

  valued_told : (o : Option (Tree Place)) (e : Tree Place) (b : Bool) → satisfies e row n ≡ b → ((c : Tree Place) → o ≡ Some c → b ≡ true → HasValue c) → satisfies (valued o e) row n ≡ b
  valued_told None e b h f = h
  valued_told (Some c) e b h f =
      true_and (meaning e row n) (meaning (is_not_null c) row n)
      ∙ ap (λ t. t && not_b (is_none (meaning c row n))) h
      ∙ and_implied b (not_b (is_none (meaning c row n))) (λ t. ap not_b (f c refl t))

  both_told : (l r e : Tree Place) → (satisfies e row n ≡ true → HasValue l × HasValue r) → satisfies (both_valued l r e) row n ≡ satisfies e row n
  both_told (column c) (column d) e f =
      valued_told (Some (column d)) (binary And e (is_not_null (column c))) (satisfies e row n)
      (valued_told (Some (column c)) e (satisfies e row n) refl (λ x is t. subst HasValue (same_Some _ _ is) (f t).0))
      (λ x is t. subst HasValue (same_Some _ _ is) (f t).1)
  both_told l r e f = refl

  -- two sides that are joined are satisfied alike where each is
  sides_told : (o : Operator) (s a b : Option (Tree Place)) (x y l r : Tree Place)
      → ((u v : Tree Place) → satisfies u row n ≡ satisfies l row n → satisfies v row n ≡ satisfies r row n → satisfies (binary o u v) row n ≡ satisfies (binary o l r) row n)
      → satisfies x row n ≡ satisfies l row n → satisfies y row n ≡ satisfies r row n
      → ((c : Tree Place) → a ≡ Some c → satisfies l row n ≡ true → HasValue c) → ((c : Tree Place) → b ≡ Some c → satisfies r row n ≡ true → HasValue c)
      → satisfies (sides_valued o s a b x y) row n ≡ satisfies (binary o l r) row n
  sides_told o (Some c) a b x y l r both h k f g = both x y h k
  sides_told o None a b x y l r both h k f g =
      both (valued a x) (valued b y) (valued_told a x (satisfies l row n) h f) (valued_told b y (satisfies r row n) k g)

  and_told : (l r u v : Tree Place) → satisfies u row n ≡ satisfies l row n → satisfies v row n ≡ satisfies r row n → satisfies (binary And u v) row n ≡ satisfies (binary And l r) row n
  and_told l r u v h k = true_and (meaning u row n) (meaning v row n) ∙ ap₂ ◌&&◌ h k ∙ sym (true_and (meaning l row n) (meaning r row n))

  or_told : (l r u v : Tree Place) → satisfies u row n ≡ satisfies l row n → satisfies v row n ≡ satisfies r row n → satisfies (binary Or u v) row n ≡ satisfies (binary Or l r) row n
  or_told l r u v h k = true_or (meaning u row n) (meaning v row n) ∙ ap₂ ◌||◌ h k ∙ sym (true_or (meaning l row n) (meaning r row n))

  body_told : (e : Tree Place) → satisfies (body e) row n ≡ satisfies e row n
  body_told (binary And l r) =
      sides_told And (agreed (rests_on l) (rests_on r)) (rests_on l) (rests_on r) (body l) (body r) l r (and_told l r) (body_told l) (body_told r) (rests_value l) (rests_value r)
  body_told (binary Or l r) =
      sides_told Or (agreed (rests_on l) (rests_on r)) (rests_on l) (rests_on r) (body l) (body r) l r (or_told l r) (body_told l) (body_told r) (rests_value l) (rests_value r)
  body_told (binary Eq l r) = both_told l r (binary Eq l r) (compared_values Eq l r refl)
  body_told (binary NotEq l r) = both_told l r (binary NotEq l r) (compared_values NotEq l r refl)
  body_told (binary Gt l r) = both_told l r (binary Gt l r) (compared_values Gt l r refl)
  body_told (binary Gte l r) = both_told l r (binary Gte l r) (compared_values Gte l r refl)
  body_told (binary Lt l r) = both_told l r (binary Lt l r) (compared_values Lt l r refl)
  body_told (binary Lte l r) = both_told l r (binary Lte l r) (compared_values Lte l r refl)
  body_told e = refl

  pub strict_told : (e : Tree Place) → satisfies (strict e) row n ≡ satisfies e row n
  strict_told e = valued_told (rests_on e) (body e) (satisfies e row n) (body_told e) (rests_value e)
