-- What is a literal truth, or has a property that no literal has: so is what two of these are connected to.
use Rattle.std.proofs.Common.{◌≡◌, ◌⊎◌, inl, inr, Bool, true, false, Some, None, Option, refl, sym, subst, subst₂}
use Rattle.vortex_expr.specs.Trees.Tree.{Tree, Place, binary}
use Rattle.vortex_expr.specs.declared.scalar_fn.Operator.TheVariants.{And, Or}
use Rattle.vortex_rewrite.specs.Rewriting.Falsifiers.{bool_literal}
use Rattle.vortex_normal.specs.Pushed.{all_by, all_of, any_by, any_of, connected, decided}

module _ (Q : Tree Place → Type 0) (undecided : (e : Tree Place) → Q e → decided e ≡ None) where
  abbrev pub IsTruthOr : Tree Place → Type 0
  IsTruthOr e = ((b : Bool) × (e ≡ bool_literal b)) ⊎ Q e

  truth_left : (w b : Bool) (r : Tree Place) → IsTruthOr r → IsTruthOr (connected w (bool_literal b) r)
  unfolding all_of any_of
  truth_left true true r k = k
  truth_left true false r k = inl (false, refl)
  truth_left false true r k = inl (true, refl)
  truth_left false false r k = k

  truth_right : (w b : Bool) (l : Tree Place) → Q l → IsTruthOr (connected w l (bool_literal b))
  unfolding all_of any_of
  truth_right true true l h = subst (λ (o : Option Bool). IsTruthOr (all_by o (Some true) l (bool_literal true))) (sym (undecided l h)) (inr h)
  truth_right true false l h = subst (λ (o : Option Bool). IsTruthOr (all_by o (Some false) l (bool_literal false))) (sym (undecided l h)) (inl (false, refl))
  truth_right false true l h = subst (λ (o : Option Bool). IsTruthOr (any_by o (Some true) l (bool_literal true))) (sym (undecided l h)) (inl (true, refl))
  truth_right false false l h = subst (λ (o : Option Bool). IsTruthOr (any_by o (Some false) l (bool_literal false))) (sym (undecided l h)) (inr h)

  neither_truth : (w : Bool) (l r : Tree Place) → Q l → Q r → Q (binary And l r) → Q (binary Or l r) → IsTruthOr (connected w l r)
  unfolding all_of any_of
  neither_truth true l r h k x y = subst₂ (λ (a b : Option Bool). IsTruthOr (all_by a b l r)) (sym (undecided l h)) (sym (undecided r k)) (inr x)
  neither_truth false l r h k x y = subst₂ (λ (a b : Option Bool). IsTruthOr (any_by a b l r)) (sym (undecided l h)) (sym (undecided r k)) (inr y)

  pub connected_truth_or : (w : Bool) (l r : Tree Place) → (Q l → Q r → Q (binary And l r)) → (Q l → Q r → Q (binary Or l r)) → IsTruthOr l → IsTruthOr r → IsTruthOr (connected w l r)
  connected_truth_or w l r x y (inl b) k = subst (λ (e : Tree Place). IsTruthOr (connected w e r)) (sym b.1) (truth_left w b.0 r k)
  connected_truth_or w l r x y (inr h) (inl b) = subst (λ (e : Tree Place). IsTruthOr (connected w l e)) (sym b.1) (truth_right w b.0 l h)
  connected_truth_or w l r x y (inr h) (inr k) = neither_truth w l r h k (x h k) (y h k)
