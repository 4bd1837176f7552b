-- A predicate over a known box in order: either its falsifier is true and no row within the box satisfies it, or one does.
use Rattle.std.proofs.Common.{◌≡◌, ◌<◌, ℕ, Bool, true, false, not as not_b, ◌&&◌, ◌||◌, List, [], ◌∷◌, ◌++◌, Option, Some, refl, sym, ap, ◌∙◌, option_to_list}
use Rattle.std.specs.List.{AllByRecursion}
use Rattle.std.proofs.lemmas.Bool.{not-true, not-false}
use Rattle.vortex_base.specs.declared.dtype.DType.{DType}
use Rattle.vortex_expr.specs.declared.scalar_fn.Operator.{Operator}
use Rattle.vortex_expr.specs.declared.scalar_fn.Operator.TheVariants.{Eq, NotEq, Gt, Gte, Lt, Lte, And, Or}
use Rattle.vortex_base.specs.declared.scalar_value.ScalarValue.{ScalarValue}
use Rattle.vortex_base.specs.declared.scalar_value.ScalarValue.TheVariants as value
use Rattle.vortex_expr.specs.Meanings.Meaning.{applied, both, compared, either, is_true, meaning, satisfies, truth, truth_value}
use Rattle.vortex_base.specs.Data.Scalars.{Constant}
use Rattle.vortex_expr.specs.Trees.Tree.{Tree, Place, literal, binary, has_bare_column}
use Rattle.vortex_base.specs.Data.Types.{eq_ignore_nullability}
use Rattle.vortex_base.specs.Data.Values.{is_value}
use Rattle.vortex_rewrite.proofs.Completeness.Choices.{Agree, AreInside, Choice, IsBetween, all_back, all_front, between_agreed, chosen_agreed, combined, combined_back, combined_front, row_with}
use Rattle.vortex_rewrite.proofs.Completeness.Interval.{Found, apart, find, is_comparison, refute, test}
use Rattle.vortex_rewrite.proofs.Completeness.Operands.{Operand, same_values}
use Rattle.vortex_rewrite.specs.Rewriting.ReadOnce.{Box, IsWithin, are_distinct, columns_of}
use Rattle.vortex_rewrite.specs.Rewriting.Proof.{Assignment, value_under}
use Rattle.vortex_rewrite.specs.Rewriting.Falsifiers.{binary_node, bool_literal, both_of, comparison_falsifier, falsifier, node, proved, reduce_balanced}
use Rattle.vortex_rewrite.specs.declared.rewrite.side.Side.TheVariants.{Falsify}
use Rattle.vortex_rewrite.proofs.Logic.{all_append}

-- ---- with no rules of a user, a node has the one proof that is built in

pub one_proof : (p e : Tree Place) → proved Falsify [] p (e ∷ []) ≡ Some e
unfolding node reduce_balanced
one_proof p e = refl

comparison_node : (o : Operator) (l r : Tree Place) (f g : Option (Tree Place)) → is_comparison o ≡ true → binary_node Falsify [] o l r f g ≡ proved Falsify [] (binary o l r) (option_to_list (comparison_falsifier o l r))
comparison_node Eq l r f g k = refl
comparison_node NotEq l r f g k = refl
comparison_node Gt l r f g k = refl
comparison_node Gte l r f g k = refl
comparison_node Lt l r f g k = refl
comparison_node Lte l r f g k = refl
comparison_node And l r f g k = cc
comparison_node Or l r f g k = cc

pub comparison_applied : (o : Operator) (a b : Option ScalarValue) → is_comparison o ≡ true → applied o a b ≡ compared o a b
comparison_applied Eq a b k = refl
comparison_applied NotEq a b k = refl
comparison_applied Gt a b k = refl
comparison_applied Gte a b k = refl
comparison_applied Lt a b k = refl
comparison_applied Lte a b k = refl
comparison_applied And a b k = cc
comparison_applied Or a b k = cc

-- ---- connectives of truths that are known

pub either_known : (s t : Bool) → either (Some s) (Some t) ≡ Some (s || t)
either_known true t = refl
either_known false t = refl

pub both_known : (s t : Bool) → both (Some s) (Some t) ≡ Some (s && t)
both_known true t = refl
both_known false t = refl

-- ---- the falsifier of a comparison, of the proofs of both operands' ends

unfoldable made : Operator → (a b c d : Tree Place) → Tree Place
made Eq a b c d = binary Or (binary Gt a d) (binary Gt c b)
made NotEq a b c d = binary And (binary Eq a d) (binary Eq b c)
made Gt a b c d = binary Lte b c
made Gte a b c d = binary Lt b c
made Lt a b c d = binary Gte a d
made Lte a b c d = binary Gt a d
made And a b c d = a
made Or a b c d = a

module _ (box : Box) (A : Assignment) (m n : ℕ) where
  abbrev Between : Choice → List Place → Type 0
  Between f cs = AllByRecursion (IsBetween box f) cs

  -- a choice within the box that makes the predicate true
  abbrev Choosable : Tree Place → Type 0
  Choosable p = (f : Choice) × AllByRecursion (IsBetween box f) (columns_of p) × (satisfies p (row_with f m) n ≡ true)

  -- what the falsifier is and says, and that it is right both ways
  pub record Decided (p : Tree Place) : Type 0 where
    pub proof : Tree Place
    pub proof_is : falsifier [] p ≡ Some proof
    pub closed : has_bare_column proof ≡ false
    pub says : Bool
    pub proof_told : value_under A n proof ≡ Some (value.Bool says)
    pub refutes : says ≡ true → (row : List Constant) → AllByRecursion (IsWithin box row) (columns_of p) → satisfies p row n ≡ false
    pub finds : says ≡ false → Choosable p

  -- ---- comparisons

  module _ (x y : Tree Place) (s t : DType) (ox : Operand box A m n x s) (oy : Operand box A m n y t) where
    made_is : (o : Operator) → is_comparison o ≡ true → comparison_falsifier o x y ≡ Some (made o ox.least ox.most oy.least oy.most)
    unfolding made
    made_is Eq k = λ i. both_of (binary Or) (both_of (binary Gt) (ox.least_is i) (oy.most_is i)) (both_of (binary Gt) (oy.least_is i) (ox.most_is i))
    made_is NotEq k = λ i. both_of (binary And) (both_of (binary Eq) (ox.least_is i) (oy.most_is i)) (both_of (binary Eq) (ox.most_is i) (oy.least_is i))
    made_is Gt k = λ i. both_of (binary Lte) (ox.most_is i) (oy.least_is i)
    made_is Gte k = λ i. both_of (binary Lt) (ox.most_is i) (oy.least_is i)
    made_is Lt k = λ i. both_of (binary Gte) (ox.least_is i) (oy.most_is i)
    made_is Lte k = λ i. both_of (binary Gt) (ox.least_is i) (oy.most_is i)
    made_is And k = cc
    made_is Or k = cc

    made_closed : (o : Operator) → is_comparison o ≡ true → has_bare_column (made o ox.least ox.most oy.least oy.most) ≡ false
    unfolding made
    made_closed Eq k = λ i. (ox.least_closed i || oy.most_closed i) || (oy.least_closed i || ox.most_closed i)
    made_closed NotEq k = λ i. (ox.least_closed i || oy.most_closed i) || (ox.most_closed i || oy.least_closed i)
    made_closed Gt k = λ i. ox.most_closed i || oy.least_closed i
    made_closed Gte k = λ i. ox.most_closed i || oy.least_closed i
    made_closed Lt k = λ i. ox.least_closed i || oy.most_closed i
    made_closed Lte k = λ i. ox.least_closed i || oy.most_closed i
    made_closed And k = cc
    made_closed Or k = cc

    made_told : (o : Operator) → is_comparison o ≡ true → value_under A n (made o ox.least ox.most oy.least oy.most) ≡ Some (value.Bool (apart o ox.lo ox.hi oy.lo oy.hi))
    unfolding made
    made_told Eq k =
        (λ i. truth_value (either (truth (truth_value (compared Gt (ox.least_told i) (oy.most_told i)))) (truth (truth_value (compared Gt (oy.least_told i) (ox.most_told i))))))
        ∙ ap truth_value (either_known (test Gt ox.lo oy.hi) (test Gt oy.lo ox.hi))
    made_told NotEq k =
        (λ i. truth_value (both (truth (truth_value (compared Eq (ox.least_told i) (oy.most_told i)))) (truth (truth_value (compared Eq (ox.most_told i) (oy.least_told i))))))
        ∙ ap truth_value (both_known (test Eq ox.lo oy.hi) (test Eq ox.hi oy.lo))
    made_told Gt k = λ i. truth_value (compared Lte (ox.most_told i) (oy.least_told i))
    made_told Gte k = λ i. truth_value (compared Lt (ox.most_told i) (oy.least_told i))
    made_told Lt k = λ i. truth_value (compared Gte (ox.least_told i) (oy.most_told i))
    made_told Lte k = λ i. truth_value (compared Gt (ox.least_told i) (oy.most_told i))
    made_told And k = cc
    made_told Or k = cc

    module _ (o : Operator) (k : is_comparison o ≡ true) where
      satisfied_as : (row : List Constant) (u v : ScalarValue) → meaning x row n ≡ Some u → meaning y row n ≡ Some v → satisfies (binary o x y) row n ≡ test o u v
      satisfied_as row u v ex ey =
          ap (λ b. is_true (truth_value b)) (comparison_applied o (meaning x row n) (meaning y row n) k)
          ∙ (λ i. is_true (truth_value (compared o (ex i) (ey i))))

      module _ (same : eq_ignore_nullability s t ≡ true) (inside : AreInside m (columns_of x ++ columns_of y)) (distinct : are_distinct (columns_of x ++ columns_of y) ≡ true) where
        found : Found (λ v. is_value v s ≡ true) o ox.lo ox.hi oy.lo oy.hi → Choosable (binary o x y)
        found w =
            let f : Choice = λ i. w.x in
            let g : Choice = λ i. w.y in
            let rx = ox.reach w.x w.x_is w.a_x w.x_b in
            let ry = oy.reach w.y (sym (same_values w.y s t same) ∙ w.y_is) w.c_y w.y_d in
            let h : Choice = combined f g (columns_of y) in
            let front : Agree h f (columns_of x) = combined_front f g (columns_of x) (columns_of y) distinct in
            let back : Agree h g (columns_of y) = combined_back f g (columns_of y) in
            let ex = chosen_agreed h f m n x (all_front (λ c. c.index < m) (columns_of x) (columns_of y) inside) front ∙ rx.1 in
            let ey = chosen_agreed h g m n y (all_back (λ c. c.index < m) (columns_of x) (columns_of y) inside) back ∙ ry.1 in (
              h,
              all_append (IsBetween box h) (columns_of x) (columns_of y) (between_agreed box h f (columns_of x) front rx.0) (between_agreed box h g (columns_of y) back ry.0),
              satisfied_as (row_with h m) w.x w.y ex ey ∙ w.holds,
            )

        pub comparison_decided : Decided (binary o x y)
        comparison_decided = record {
          proof = made o ox.least ox.most oy.least oy.most;
          proof_is =
              comparison_node o x y (falsifier [] x) (falsifier [] y) k
              ∙ ap (λ e. proved Falsify [] (binary o x y) (option_to_list e)) (made_is o k)
              ∙ one_proof (binary o x y) (made o ox.least ox.most oy.least oy.most);
          closed = made_closed o k;
          says = apart o ox.lo ox.hi oy.lo oy.hi;
          proof_told = made_told o k;
          refutes = λ h row within.
              let bx = ox.bounded row (all_front (IsWithin box row) (columns_of x) (columns_of y) within) in
              let by = oy.bounded row (all_back (IsWithin box row) (columns_of x) (columns_of y) within) in
              satisfied_as row bx.0 by.0 bx.1 by.1 ∙ refute ox.lo ox.hi oy.lo oy.hi ox.order oy.order bx.0 by.0 bx.2 bx.3 by.2 by.3 o h;
          finds = λ h. found (find ox.lo ox.hi oy.lo oy.hi ox.order oy.order (λ v. is_value v s ≡ true) ox.lo_fits ox.hi_fits (same_values oy.lo s t same ∙ oy.lo_fits) (same_values oy.hi s t same ∙ oy.hi_fits) o k h);
        }

  -- ---- truths

  pub truth_decided : (t : DType) (b : Bool) → Decided (literal (record { dtype = t; value = Some (value.Bool b) }))
  truth_decided t b = record {
    proof = bool_literal (not_b b);
    proof_is = one_proof _ (bool_literal (not_b b));
    closed = refl;
    says = not_b b;
    proof_told = refl;
    refutes = λ h row within. not-true b h;
    finds = λ h. (box.low, tt, not-false b h);
  }
