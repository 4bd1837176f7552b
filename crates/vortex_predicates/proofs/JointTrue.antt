-- Two proofs as one are true where either is, if they are closed.
use Rattle.std.proofs.Common.{◌≡◌, ℕ, Bool, true, false, ◌&&◌, ◌||◌, ◌⊎◌, ⊎_elim, inl, inr, Option, Some, None, refl, sym, ◌∙◌, subst, if◌then◌else◌}
use Rattle.std.proofs.lemmas.Bool.{and_parts, or_cases, or_left, or_parts, or_right}
use Rattle.vortex_base.specs.declared.scalar_value.ScalarValue.{ScalarValue}
use Rattle.vortex_expr.specs.Meanings.Meaning.{is_true}
use Rattle.vortex_expr.specs.Trees.Tree.{Tree, Place, binary, has_bare_column}
use Rattle.vortex_expr.specs.Trees.TreeEq.{tree_eq, tree_eq_is_exact}
use Rattle.vortex_expr.specs.declared.scalar_fn.Operator.TheVariants.{And, Or}
use Rattle.vortex_predicates.specs.Joint.{covers, joint}
use Rattle.vortex_prune.specs.Scanning.Selection.{proves_of}
use Rattle.vortex_rewrite.proofs.Soundness.TruthLogic.{proves_or, proves_value, true_and, true_or}
use Rattle.vortex_rewrite.specs.Rewriting.Proof.{Assignment, is_open, proves, value_under}

either_false : (a b : Bool) → a ≡ false → b ≡ false → (a || b) ≡ false
either_false true b h k = cc
either_false false b h k = k

both_hold : (a b : Bool) → a ≡ true → b ≡ true → (a && b) ≡ true
both_hold true b h k = k
both_hold false b h k = cc

closed_true : (b : Bool) (v : Option ScalarValue) → b ≡ false → is_true v ≡ true → is_true (if b then None else v) ≡ true
closed_true true v h k = cc
closed_true false v h k = k

module _ (A : Assignment) (n : ℕ) where
  -- the value of a proof is true, whether it is closed or not
  abbrev Yes : Tree Place → Type 0
  Yes e = is_true (value_under A n e) ≡ true

  same_yes : (g f : Tree Place) → tree_eq g f ≡ true → Yes f → Yes g
  same_yes g f h y = subst Yes (sym ((tree_eq_is_exact g f).0 h)) y

  left_yes : (a b : Tree Place) → Yes a → Yes (binary Or a b)
  left_yes a b y = true_or (value_under A n a) (value_under A n b) ∙ or_left _ _ y

  right_yes : (a b : Tree Place) → Yes b → Yes (binary Or a b)
  right_yes a b y = true_or (value_under A n a) (value_under A n b) ∙ or_right _ _ y

  either_yes : (a b c d : Tree Place) → (Yes c → Yes a) → (Yes d → Yes b) → Yes (binary Or c d) → Yes (binary Or a b)
  either_yes a b c d f g y =
      ⊎_elim (λ h. left_yes a b (f h)) (λ h. right_yes a b (g h))
      (or_cases (is_true (value_under A n c)) (is_true (value_under A n d)) (sym (true_or (value_under A n c) (value_under A n d)) ∙ y))

  both_yes : (a b c d : Tree Place) → (Yes c → Yes a) → (Yes d → Yes b) → Yes (binary And c d) → Yes (binary And a b)
  both_yes a b c d f g y =
      let k = and_parts (is_true (value_under A n c)) (is_true (value_under A n d)) (sym (true_and (value_under A n c) (value_under A n d)) ∙ y) in
      true_and (value_under A n a) (value_under A n b) ∙ both_hold _ _ (f k.0) (g k.1)

  covers_yes : (g f : Tree Place) → covers g f ≡ true → Yes f → Yes g
  covers_yes (binary Or a b) (binary Or c d) h y =
      ⊎_elim (λ e. same_yes (binary Or a b) (binary Or c d) e y)
      (λ r. ⊎_elim (λ e. left_yes a b (same_yes a (binary Or c d) e y))
      (λ t. let k = and_parts (covers a c) (covers b d) t in either_yes a b c d (covers_yes a c k.0) (covers_yes b d k.1) y)
      (or_cases (tree_eq a (binary Or c d)) (covers a c && covers b d) r))
      (or_cases (tree_eq (binary Or a b) (binary Or c d)) (tree_eq a (binary Or c d) || (covers a c && covers b d)) h)
  covers_yes (binary Or a b) f h y = left_yes a b (same_yes a f h y)
  covers_yes (binary And a b) (binary And c d) h y =
      ⊎_elim (λ e. same_yes (binary And a b) (binary And c d) e y)
      (λ t. let k = and_parts (covers a c) (covers b d) t in both_yes a b c d (covers_yes a c k.0) (covers_yes b d k.1) y)
      (or_cases (tree_eq (binary And a b) (binary And c d)) (covers a c && covers b d) h)
  covers_yes g f h y = same_yes g f h y

  -- ---- a joint proof is true where one of the two is

  either_back : (b : Bool) (f g : Tree Place) → proves_of (if b then Some g else Some (binary Or f g)) n A ≡ true → (proves f A n ≡ true) ⊎ (proves g A n ≡ true)
  either_back true f g h = inr h
  either_back false f g h = proves_or f g A n h

  pub joint_back : (f g : Option (Tree Place)) → proves_of (joint f g) n A ≡ true → (proves_of f n A ≡ true) ⊎ (proves_of g n A ≡ true)
  joint_back None g h = inr h
  joint_back (Some f) None h = inl h
  joint_back (Some f) (Some g) h = either_back (covers g f) f g h

  -- ---- and where either is, if it is closed

  first_either : (b : Bool) (f g : Tree Place) → covers g f ≡ b → is_open (if b then Some g else Some (binary Or f g)) ≡ false → proves f A n ≡ true → proves_of (if b then Some g else Some (binary Or f g)) n A ≡ true
  first_either true f g e shut h = closed_true (has_bare_column g) (value_under A n g) shut (covers_yes g f e (proves_value f A n h))
  first_either false f g e shut h = closed_true (has_bare_column f || has_bare_column g) (value_under A n (binary Or f g)) shut (left_yes f g (proves_value f A n h))

  pub joint_first : (f g : Option (Tree Place)) → is_open (joint f g) ≡ false → proves_of f n A ≡ true → proves_of (joint f g) n A ≡ true
  joint_first None g shut h = cc
  joint_first (Some f) None shut h = h
  joint_first (Some f) (Some g) shut h = first_either (covers g f) f g refl shut h

  second_either : (b : Bool) (f g : Tree Place) → is_open (if b then Some g else Some (binary Or f g)) ≡ false → proves g A n ≡ true → proves_of (if b then Some g else Some (binary Or f g)) n A ≡ true
  second_either true f g shut h = h
  second_either false f g shut h = closed_true (has_bare_column f || has_bare_column g) (value_under A n (binary Or f g)) shut (right_yes f g (proves_value g A n h))

  pub joint_second : (f g : Option (Tree Place)) → is_open (joint f g) ≡ false → proves_of g n A ≡ true → proves_of (joint f g) n A ≡ true
  joint_second None g shut h = h
  joint_second (Some f) None shut h = cc
  joint_second (Some f) (Some g) shut h = second_either (covers g f) f g shut h

-- ---- closed proofs

rest_either : (b : Bool) (f g : Tree Place) → is_open (if b then Some g else Some (binary Or f g)) ≡ false → has_bare_column g ≡ false
rest_either true f g shut = shut
rest_either false f g shut = (or_parts (has_bare_column f) (has_bare_column g) shut).1

-- the second of two is closed if they are joined to a closed one
pub joint_rest : (f g : Option (Tree Place)) → is_open (joint f g) ≡ false → is_open g ≡ false
joint_rest None g shut = shut
joint_rest (Some f) None shut = refl
joint_rest (Some f) (Some g) shut = rest_either (covers g f) f g shut

closed_either : (b : Bool) (f g : Tree Place) → has_bare_column f ≡ false → has_bare_column g ≡ false → is_open (if b then Some g else Some (binary Or f g)) ≡ false
closed_either true f g h k = k
closed_either false f g h k = either_false (has_bare_column f) (has_bare_column g) h k

-- two closed proofs are joined to a closed one
pub joint_closed : (f g : Option (Tree Place)) → is_open f ≡ false → is_open g ≡ false → is_open (joint f g) ≡ false
joint_closed None g h k = k
joint_closed (Some f) None h k = h
joint_closed (Some f) (Some g) h k = closed_either (covers g f) f g h k
