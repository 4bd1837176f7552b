-- A comparison, or a LIKE, is never true where an operand is null.
use Rattle.std.proofs.Common.{◌≡◌, ◌∙◌, ℕ, Bool, true, false, List, Option, Some, None, ◌⊎◌, ⊎_elim, inl, inr, refl, ap}
use Rattle.std.specs.Prelude.{is_none, if◌then◌else◌}
use Rattle.std.proofs.lemmas.Option.{same_Some, none-some, cond_some}
use Rattle.vortex_base.specs.declared.aggregate.AggregateFnRef.TheVariants.{AllNull}
use Rattle.vortex_expr.specs.declared.like.LikeOptions.{LikeOptions}
use Rattle.vortex_expr.specs.declared.scalar_fn.Operator.{Operator}
use Rattle.vortex_expr.specs.declared.scalar_fn.Operator.TheVariants.{Eq, NotEq, Gt, Gte, Lt, Lte, And, Or}
use Rattle.vortex_base.specs.declared.scalar_value.ScalarValue.{ScalarValue}
use Rattle.vortex_base.specs.Data.Columns.{row_of, row_count as rows_of}
use Rattle.vortex_expr.specs.Meanings.Meaning.{applied, holds, is_like, is_true, meaning, truth_value, unless_null}
use Rattle.vortex_base.specs.Data.Scalars.{Constant}
use Rattle.vortex_expr.specs.Trees.Tree.{Tree, Place, literal, binary, like, stat}
use Rattle.vortex_base.specs.Data.Values.{value_cmp}
use Rattle.vortex_examples.specs.NullOperands.{either_null, null_operands, null_proof}
use Rattle.vortex_rewrite.proofs.Soundness.RowFacts.{right_at}
use Rattle.vortex_rewrite.proofs.Soundness.RowRules.{IsRight, true_value}
use Rattle.vortex_rewrite.proofs.Soundness.TruthLogic.{proves_or, proves_value}
use Rattle.vortex_rewrite.specs.Rewriting.Lawful.{IsLawful, IsSoundFalsifier}
use Rattle.vortex_rewrite.specs.Rewriting.Predicates.{is_connective}
use Rattle.vortex_rewrite.specs.Rewriting.Proof.{Assignment, proves}
use Rattle.vortex_rewrite.specs.Rewriting.Falsifiers.{bool_literal, either_of}

-- ---- at one row

module _ (A : Assignment) (row : List Constant) (n : ℕ) (right : IsRight A row n) where
  null_right : (x e : Tree Place) → null_proof x ≡ Some e → proves e A n ≡ true → is_none (meaning x row n) ≡ true
  null_right (literal c) e h t = (cond_some (is_none c.value) (bool_literal true) e h).0
  null_right x e h t =
      right.every_null x (true_value (A AllNull x) (proves_value (stat AllNull x) A n (ap (λ d. proves d A n) (same_Some _ _ h) ∙ t)))

  -- of two proofs joined by OR one is true
  one_true : (a b : Option (Tree Place)) (e : Tree Place) (G : Type 0)
      → ((d : Tree Place) → a ≡ Some d → proves d A n ≡ true → G) → ((d : Tree Place) → b ≡ Some d → proves d A n ≡ true → G)
      → either_of (binary Or) a b ≡ Some e → proves e A n ≡ true → G
  one_true (Some a) (Some b) e G f g h t = ⊎_elim (f a refl) (g b refl) (proves_or a b A n (ap (λ d. proves d A n) (same_Some _ _ h) ∙ t))
  one_true (Some a) None e G f g h t = f e h t
  one_true None b e G f g h t = g e h t

  one_null : (x y e : Tree Place) → either_null x y ≡ Some e → proves e A n ≡ true → (is_none (meaning x row n) ≡ true) ⊎ (is_none (meaning y row n) ≡ true)
  one_null x y e h t =
      one_true (null_proof x) (null_proof y) e ((is_none (meaning x row n) ≡ true) ⊎ (is_none (meaning y row n) ≡ true))
      (λ d i u. inl (null_right x d i u)) (λ d i u. inr (null_right y d i u)) h t

-- ---- what is null of one null operand

not_both : false ≡ true → ⊥
not_both h = cc

strict : (test : ScalarValue → ScalarValue → Bool) (a b : Option ScalarValue) → (is_none a ≡ true) ⊎ (is_none b ≡ true) → is_true (truth_value (unless_null test a b)) ≡ false
strict test None b h = refl
strict test (Some a) None h = refl
strict test (Some a) (Some b) h = absurd (⊎_elim not_both not_both h)

compared_null : (o : Operator) (a b : Option ScalarValue) → is_connective o ≡ false → (is_none a ≡ true) ⊎ (is_none b ≡ true) → is_true (truth_value (applied o a b)) ≡ false
compared_null Eq a b c h = strict (λ x y. holds Eq (value_cmp x y)) a b h
compared_null NotEq a b c h = strict (λ x y. holds NotEq (value_cmp x y)) a b h
compared_null Gt a b c h = strict (λ x y. holds Gt (value_cmp x y)) a b h
compared_null Gte a b c h = strict (λ x y. holds Gte (value_cmp x y)) a b h
compared_null Lt a b c h = strict (λ x y. holds Lt (value_cmp x y)) a b h
compared_null Lte a b c h = strict (λ x y. holds Lte (value_cmp x y)) a b h
compared_null And a b c h = cc
compared_null Or a b c h = cc

-- ---- the law

unless : (b : Bool) (o : Option (Tree Place)) (e : Tree Place) → (if b then None else o) ≡ Some e → (b ≡ false) × (o ≡ Some e)
unless true o e h = absurd (none-some e h)
unless false o e h = (refl, h)

comparison_falsified : (o : Operator) (l r e : Tree Place) → is_connective o ≡ false → either_null l r ≡ Some e → IsSoundFalsifier (binary o l r) e
comparison_falsified o l r e c h k A chunk over honest t i here =
    let right = right_at A k.columns honest i here in
    compared_null o (meaning l (row_of i k.columns) (rows_of k.columns)) (meaning r (row_of i k.columns) (rows_of k.columns)) c
    (one_null A (row_of i k.columns) (rows_of k.columns) right l r e h t)

like_falsified : (o : LikeOptions) (x p e : Tree Place) → either_null x p ≡ Some e → IsSoundFalsifier (like o x p) e
like_falsified o x p e h k A chunk over honest t i here =
    let right = right_at A k.columns honest i here in
    strict (is_like o) (meaning x (row_of i k.columns) (rows_of k.columns)) (meaning p (row_of i k.columns) (rows_of k.columns))
    (one_null A (row_of i k.columns) (rows_of k.columns) right x p e h t)

null_operands_falsify : (p e : Tree Place) → null_operands p ≡ Some e → IsSoundFalsifier p e
null_operands_falsify (binary o l r) e h =
    let found = unless (is_connective o) (either_null l r) e h in
    comparison_falsified o l r e found.0 found.1
null_operands_falsify (like o x p) e h = like_falsified o x p e h
null_operands_falsify p e h = absurd (none-some e h)

pub null_operands_is_lawful : IsLawful null_operands (λ p. None)
null_operands_is_lawful = record { falsifies = null_operands_falsify; satisfies = λ p e h. absurd (none-some e h) }
