-- The proofs that every row satisfies a comparison, at one row where the answers of the placeholders are right.
use Rattle.std.proofs.Common.{◌≡◌, ℕ, true, false, not, ⊎_elim, List, Option, Some, None, option_map, refl, sym, ap, ◌∙◌}
use Rattle.std.specs.Prelude.{⊤, is_none}
use Rattle.std.specs.declared.cmp.Ordering.{Ordering}
use Rattle.std.proofs.lemmas.Bool.{not-false, and_parts, or_cases}
use Rattle.std.proofs.lemmas.Option.{same_Some, none-some}
use Rattle.vortex_base.specs.Data.Scalars.{Constant}
use Rattle.vortex_base.specs.Data.Values.{value_cmp}
use Rattle.vortex_expr.specs.Meanings.Meaning.{holds, is_true, meaning, satisfies}
use Rattle.vortex_expr.specs.Trees.Tree.{Tree, Place, literal, binary}
use Rattle.vortex_base.specs.declared.aggregate.AggregateFnRef.{AggregateFnRef}
use Rattle.vortex_base.specs.declared.aggregate.AggregateFnRef.TheVariants.{Max, Min, AllNonNull}
use Rattle.vortex_expr.specs.declared.scalar_fn.Operator.{Operator}
use Rattle.vortex_expr.specs.declared.scalar_fn.Operator.TheVariants.{Eq, NotEq, Gt, Gte, Lt, Lte, And, Or}
use Rattle.vortex_base.specs.declared.scalar_value.ScalarValue.{ScalarValue}
use Rattle.vortex_rewrite.proofs.Soundness.RowRules.{IsRight, comparison_right, is, true_value}
use Rattle.vortex_rewrite.proofs.Soundness.TruthLogic.{both_some, true_and, true_or}
use Rattle.vortex_rewrite.specs.Rewriting.BuiltIn.{opposite}
use Rattle.vortex_rewrite.specs.Rewriting.Predicates.{is_connective}
use Rattle.vortex_rewrite.specs.Rewriting.Proof.{Assignment, value_under}
use Rattle.vortex_rewrite.specs.Rewriting.Falsifiers.{both_of, comparison_falsifier, comparison_satisfier, extreme, max_of, min_of, value_condition, without_nulls}

-- that any two values compare so is that no two compare the opposite way
pub condition_is : (o : Operator) (l r : Tree Place) → value_condition o l r ≡ comparison_falsifier (opposite o) l r
condition_is Eq l r = refl
condition_is NotEq l r = refl
condition_is Gt l r = refl
condition_is Gte l r = refl
condition_is Lt l r = refl
condition_is Lte l r = refl
condition_is And l r = refl
condition_is Or l r = refl

-- ---- two optional values

-- where the opposite doesn't hold of two values, the comparison does
held_back : (o : Operator) (r : Ordering) → is_connective o ≡ false → holds (opposite o) r ≡ false → holds o r ≡ true
held_back Eq r c h = not-false _ h
held_back NotEq r c h = ap not h
held_back Gt r c h = not-false _ h
held_back Gte r c h = ap not h
held_back Lt r c h = not-false _ h
held_back Lte r c h = ap not h
held_back And r c h = cc
held_back Or r c h = cc

of_opposite : (o : Operator) (u v : Option ScalarValue) → is_connective o ≡ false → is_none u ≡ false → is_none v ≡ false → is (opposite o) u v ≡ false → is o u v ≡ true
of_opposite o None v c h k e = cc
of_opposite o (Some a) None c h k e = cc
of_opposite o (Some a) (Some b) c h k e = held_back o (value_cmp a b) c e

-- what compares is there
both_there : (o : Operator) (u v : Option ScalarValue) → is o u v ≡ true → (is_none u ≡ false) × (is_none v ≡ false)
both_there o None v h = cc
both_there o (Some a) None h = cc
both_there o (Some a) (Some b) h = (refl, refl)

mapped_from : (f : Tree Place → Tree Place) (o : Option (Tree Place)) (e : Tree Place) → option_map f o ≡ Some e → (c : Tree Place) × (o ≡ Some c) × (f c ≡ e)
mapped_from f None e h = absurd (none-some e h)
mapped_from f (Some c) e h = (c, refl, same_Some _ _ h)

-- an operand that is a literal has a value
abbrev IfLiteral : Tree Place → Type 0
IfLiteral (literal c) = is_none c.value ≡ false
IfLiteral x = ⊤

-- ---- one row

module _ (A : Assignment) (row : List Constant) (n : ℕ) (right : IsRight A row n) where
  abbrev told : Tree Place → Option ScalarValue
  told e = value_under A n e

  abbrev HasValue : Tree Place → Type 0
  HasValue x = is_none (meaning x row n) ≡ false

  extreme_there : (f : AggregateFnRef) (x e : Tree Place) → extreme f x ≡ Some e → is_none (value_under A n e) ≡ false → IfLiteral x
  extreme_there f (literal c) e h k = ap (λ d. is_none (value_under A n d)) (same_Some _ _ h) ∙ k
  extreme_there f x e h k = tt

  -- where extremes of two operands compare, those that are literals have values
  literals_there : (o : Operator) (join : Tree Place → Tree Place → Tree Place) (f g : AggregateFnRef) (x y e : Tree Place)
      → ((a b : Tree Place) → is_true (told (join a b)) ≡ is o (told a) (told b)) → both_of join (extreme f x) (extreme g y) ≡ Some e → is_true (told e) ≡ true → IfLiteral x × IfLiteral y
  literals_there o join f g x y e computes h t =
      let b = both_some join (extreme f x) (extreme g y) e h in
      let k = both_there o (told b.left) (told b.right) (sym (computes b.left b.right) ∙ ap (λ d. is_true (told d)) b.is ∙ t) in
      (extreme_there f x b.left b.left_is k.0, extreme_there g y b.right b.right_is k.1)

  condition_there : (o : Operator) (x y e : Tree Place) → value_condition o x y ≡ Some e → is_true (told e) ≡ true → IfLiteral x × IfLiteral y
  condition_there Gt x y e h t = literals_there Gt (binary Gt) Min Max x y e (λ a b. refl) h t
  condition_there Gte x y e h t = literals_there Gte (binary Gte) Min Max x y e (λ a b. refl) h t
  condition_there Lt x y e h t = literals_there Lt (binary Lt) Max Min x y e (λ a b. refl) h t
  condition_there Lte x y e h t = literals_there Lte (binary Lte) Max Min x y e (λ a b. refl) h t
  condition_there Eq x y e h t =
      let o = both_some (binary And) (both_of (binary Eq) (min_of x) (max_of y)) (both_of (binary Eq) (max_of x) (min_of y)) e h in
      let k = and_parts (is_true (told o.left)) (is_true (told o.right)) (sym (true_and (told o.left) (told o.right)) ∙ ap (λ d. is_true (told d)) o.is ∙ t) in
      literals_there Eq (binary Eq) Min Max x y o.left (λ a b. refl) o.left_is k.0
  condition_there NotEq x y e h t =
      let o = both_some (binary Or) (both_of (binary Gt) (min_of x) (max_of y)) (both_of (binary Gt) (min_of y) (max_of x)) e h in
      ⊎_elim
      (λ k. literals_there Gt (binary Gt) Min Max x y o.left (λ a b. refl) o.left_is k)
      (λ k. let w = literals_there Gt (binary Gt) Min Max y x o.right (λ a b. refl) o.right_is k in (w.1, w.0))
      (or_cases (is_true (told o.left)) (is_true (told o.right)) (sym (true_or (told o.left) (told o.right)) ∙ ap (λ d. is_true (told d)) o.is ∙ t))
  condition_there And x y e h t = absurd (none-some e h)
  condition_there Or x y e h t = absurd (none-some e h)

  -- of two operands that have values the comparison holds
  condition_right : (o : Operator) (x y e : Tree Place) → value_condition o x y ≡ Some e → is_true (told e) ≡ true → HasValue x → HasValue y → satisfies (binary o x y) row n ≡ true
  condition_right Eq x y e h t u v = of_opposite Eq (meaning x row n) (meaning y row n) refl u v (comparison_right A row n right NotEq x y e h t)
  condition_right NotEq x y e h t u v = of_opposite NotEq (meaning x row n) (meaning y row n) refl u v (comparison_right A row n right Eq x y e h t)
  condition_right Gt x y e h t u v = of_opposite Gt (meaning x row n) (meaning y row n) refl u v (comparison_right A row n right Lte x y e h t)
  condition_right Gte x y e h t u v = of_opposite Gte (meaning x row n) (meaning y row n) refl u v (comparison_right A row n right Lt x y e h t)
  condition_right Lt x y e h t u v = of_opposite Lt (meaning x row n) (meaning y row n) refl u v (comparison_right A row n right Gte x y e h t)
  condition_right Lte x y e h t u v = of_opposite Lte (meaning x row n) (meaning y row n) refl u v (comparison_right A row n right Gt x y e h t)
  condition_right And x y e h t u v = absurd (none-some e h)
  condition_right Or x y e h t u v = absurd (none-some e h)

  -- with the test of its nulls, an operand has a value; a literal has one where it compares
  nulls_excluded : (x e : Tree Place) → is_true (told (without_nulls x e)) ≡ true → (is_true (told e) ≡ true) × (IfLiteral x → HasValue x)
  nulls_excluded (literal c) e t = (t, λ k. k)
  nulls_excluded x e t =
      let k = and_parts (is_true (told e)) (is_true (A AllNonNull x)) (sym (true_and (told e) (A AllNonNull x)) ∙ t) in
      (k.0, λ l. right.none_null x (true_value (A AllNonNull x) k.1))

  pub comparison_shown : (o : Operator) (x y e : Tree Place) → comparison_satisfier o x y ≡ Some e → is_true (told e) ≡ true → satisfies (binary o x y) row n ≡ true
  comparison_shown o x y e h t =
      let m = mapped_from (λ c. without_nulls y (without_nulls x c)) (value_condition o x y) e h in
      let w = nulls_excluded y (without_nulls x m.0) (ap (λ d. is_true (told d)) m.2 ∙ t) in
      let v = nulls_excluded x m.0 w.0 in
      let k = condition_there o x y m.0 m.1 v.0 in
      condition_right o x y m.0 m.1 v.0 (v.1 k.0) (w.1 k.1)
