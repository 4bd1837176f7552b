-- The proofs of a predicate are right that are those of its other forms.
use Rattle.std.proofs.Common.{◌≡◌, ◌<◌, ℕ, Bool, true, false, List, Option, Some, None, IsTrue, refl, subst, sym, ap, ◌∙◌, arith, if◌then◌else◌}
use Rattle.std.specs.Prelude.{slice_get}
use Rattle.vortex_base.proofs.Data.RowLemmas.{row_of-IsRow}
use Rattle.vortex_base.specs.Data.Columns.{ChunkData, IsChunk, row_of, row_count as rows_of}
use Rattle.vortex_base.specs.Data.Exact.{both_true}
use Rattle.vortex_base.specs.declared.scalar_value.ScalarValue.{ScalarValue}
use Rattle.vortex_base.specs.declared.scalar_value.ScalarValue.TheVariants as value
use Rattle.vortex_expr.proofs.Meanings.RowsFit.{rows-fit}
use Rattle.vortex_expr.specs.Meanings.Fitting.{fits_scope, is_of_type}
use Rattle.vortex_expr.specs.Meanings.Meaning.{is_true, meaning, satisfies, truth}
use Rattle.vortex_expr.specs.Meanings.Typing.{type_of}
use Rattle.vortex_expr.specs.Trees.Tree.{Tree, Place, is_plain}
use Rattle.vortex_normal.specs.Groups.{normal}
use Rattle.vortex_normal.specs.Same.{HasNoOther, Same}
use Rattle.vortex_normal.specs.Strict.{strict_test}
use Rattle.vortex_normal.specs.Tested.{IsTestOf, passes}
use Rattle.vortex_predicates.proofs.Full.{any_count, at_row, no_count}
use Rattle.vortex_predicates.proofs.EqualBounds.{form_falsifies}
use Rattle.vortex_predicates.proofs.JointRight.{joint_falsifies, joint_satisfies, own_falsifies, own_satisfies}
use Rattle.vortex_predicates.specs.EqualBounds.{form_proof}
use Rattle.vortex_predicates.specs.Joint.{joint}
use Rattle.vortex_predicates.specs.Pruning.{Falsifies, HasRowsOf, IsRight, IsTestForm, Satisfies, is_test_within, is_within, skip_proof, test_proof, unless_deep, whole_proof}
use Rattle.vortex_prune.proofs.Scanning.Lossless.{is_over_chunk}
use Rattle.vortex_prune.proofs.Scanning.WholeScan.{predicate_typed}
use Rattle.vortex_rewrite.specs.Rewriting.Falsifiers.{falsifier, satisfier}
use Rattle.vortex_rewrite.specs.Rewriting.Lawful.{IsOver, OwnRule}
use Rattle.vortex_rewrite.specs.Rewriting.Predicates.{is_predicate}

-- ---- proofs of other forms

pub passing_true : (v : Option ScalarValue) → passes true false (truth v) ≡ is_true v
passing_true None = refl
passing_true (Some (value.Bool b)) = refl
passing_true (Some (value.Primitive p)) = refl
passing_true (Some (value.Utf8 bs)) = refl
passing_true (Some (value.Binary bs)) = refl

-- a test that a predicate is true is satisfied by the same rows
pub test_is_same : (p q : Tree Place) → IsTestOf true false p q → Same p q
test_is_same p q test row n r f small = test row n r f small ∙ passing_true (meaning p row n)

not_untrue : (v : Option ScalarValue) → passes false true (truth v) ≡ false → is_true v ≡ true
not_untrue None h = cc
not_untrue (Some (value.Bool true)) h = refl
not_untrue (Some (value.Bool false)) h = cc
not_untrue (Some (value.Primitive p)) h = cc
not_untrue (Some (value.Utf8 bs)) h = cc
not_untrue (Some (value.Binary bs)) h = cc

module _ (p q : Tree Place) (plain_p : IsTrue (is_plain p)) (plain_q : IsTrue (is_plain q)) (predicate : IsTrue (is_predicate q)) (other : HasNoOther p q) where
  over_carried : (k : ChunkData) → IsOver p k → IsOver q k
  over_carried k over =
      is_over_chunk q k (predicate_typed (type_of q) predicate) plain_q
      (other (λ c. is_of_type c.dtype (slice_get k.scope c.index)) (both_true _ _ over.over).1)

  abbrev fits_of : (k : ChunkData) → IsOver p k → IsTrue (fits_scope p k.scope)
  fits_of k over = (both_true _ _ over.over).1

  pub same_falsifies : (proof : Option (Tree Place)) → Same p q → Falsifies proof q → Falsifies proof p
  same_falsifies proof same h k A chunk over honest t i less =
      sym (at_row p q plain_p plain_q same k i chunk (fits_of k over) less) ∙ h k A chunk (over_carried k over) honest t i less

  pub same_satisfies : (proof : Option (Tree Place)) → Same p q → Satisfies proof q → Satisfies proof p
  same_satisfies proof same h k A chunk over honest t i less =
      sym (at_row p q plain_p plain_q same k i chunk (fits_of k over) less) ∙ h k A chunk (over_carried k over) honest t i less

  -- the truth of the first on a row of a chunk passes where the second is satisfied, whatever the row count is
  test_at : (w m : Bool) → IsTestOf w m p q → (k : ChunkData) (i : ℕ) → IsChunk k → IsTrue (fits_scope p k.scope) → i < rows_of k.columns
      → satisfies q (row_of i k.columns) (rows_of k.columns) ≡ passes w m (truth (meaning p (row_of i k.columns) (rows_of k.columns)))
  test_at w m test k i chunk fits here =
      let row = row_of i k.columns in
      ap is_true (any_count row (rows_of k.columns) 0 q (no_count q plain_q))
      ∙ test row 0 (row_of-IsRow k i chunk here) (rows-fit p k i chunk fits) (omega arith)
      ∙ ap (λ v. passes w m (truth v)) (any_count row 0 (rows_of k.columns) p (no_count p plain_p))

  -- where no row satisfies that a predicate isn't true, each satisfies it
  pub untrue_satisfies : (proof : Option (Tree Place)) → IsTestOf false true p q → Falsifies proof q → Satisfies proof p
  untrue_satisfies proof test h k A chunk over honest t i less =
      not_untrue (meaning p (row_of i k.columns) (rows_of k.columns))
      (sym (test_at false true test k i chunk (fits_of k over) less) ∙ h k A chunk (over_carried k over) honest t i less)

-- ---- the whole

deep_if : (b : Bool) (o : Option (Tree Place)) (p : Tree Place) → (b ≡ true → Falsifies o p) → Falsifies (if b then o else None) p
deep_if true o p f = f refl
deep_if false o p f = λ k A chunk over honest t. cc

deep_falsifies : (levels : Option ℕ) (form : Tree Place) (o : Option (Tree Place)) (p : Tree Place) → (IsTrue (is_within levels form) → Falsifies o p) → Falsifies (unless_deep levels form o) p
deep_falsifies levels form o p f = deep_if (is_within levels form) o p f

whole_if : (b : Bool) (o : Option (Tree Place)) (p : Tree Place) → (b ≡ true → Satisfies o p) → Satisfies (if b then o else None) p
whole_if true o p f = f refl
whole_if false o p f = λ k A chunk over honest t. cc

deep_satisfies : (levels : Option ℕ) (form : Tree Place) (o : Option (Tree Place)) (p : Tree Place) → (IsTrue (is_within levels form) → Satisfies o p) → Satisfies (unless_deep levels form o) p
deep_satisfies levels form o p f = whole_if (is_within levels form) o p f

pub skip_right : (own : List OwnRule) (levels : Option ℕ) (p : Tree Place) → IsTrue (is_plain p) → HasRowsOf p (normal p) → (IsTrue (is_test_within levels true false p) → IsTestForm true false p (strict_test true false p))
    → Falsifies (skip_proof own levels p) p
skip_right own levels p plain n form =
    let q = strict_test true false p in
    joint_falsifies (falsifier own p) (joint (unless_deep levels (normal p) (falsifier own (normal p))) (test_proof own levels true false p)) p (own_falsifies own p)
    (joint_falsifies (unless_deep levels (normal p) (falsifier own (normal p))) (test_proof own levels true false p) p
    (deep_falsifies levels (normal p) (falsifier own (normal p)) p (λ _. same_falsifies p (normal p) plain (n.plain plain) n.predicate n.columns (falsifier own (normal p)) n.same (own_falsifies own (normal p))))
    (deep_if (is_test_within levels true false p) (form_proof own q) p
    (λ within. let t = form within in same_falsifies p q plain (t.plain plain) t.predicate t.columns (form_proof own q) (test_is_same p q t.test) (form_falsifies own q))))

pub whole_right : (own : List OwnRule) (levels : Option ℕ) (p : Tree Place) → IsTrue (is_plain p) → HasRowsOf p (normal p) → (IsTrue (is_test_within levels false true p) → IsTestForm false true p (strict_test false true p))
    → Satisfies (whole_proof own levels p) p
whole_right own levels p plain n form =
    let q = strict_test false true p in
    joint_satisfies (satisfier own p) (joint (unless_deep levels (normal p) (satisfier own (normal p))) (test_proof own levels false true p)) p (own_satisfies own p)
    (joint_satisfies (unless_deep levels (normal p) (satisfier own (normal p))) (test_proof own levels false true p) p
    (deep_satisfies levels (normal p) (satisfier own (normal p)) p (λ _. same_satisfies p (normal p) plain (n.plain plain) n.predicate n.columns (satisfier own (normal p)) n.same (own_satisfies own (normal p))))
    (whole_if (is_test_within levels false true p) (form_proof own q) p
    (λ within. let t = form within in untrue_satisfies p q plain (t.plain plain) t.predicate t.columns (form_proof own q) t.test (form_falsifies own q))))

-- a predicate with these proofs is right
pub right_of : (own : List OwnRule) (levels : Option ℕ) (p e n : Tree Place) (f s : Option (Tree Place)) → e ≡ p → n ≡ normal p → HasRowsOf p n → IsTrue (is_predicate p) → IsTrue (is_plain p)
    → f ≡ skip_proof own levels p → s ≡ whole_proof own levels p
    → (IsTrue (is_test_within levels true false p) → IsTestForm true false p (strict_test true false p))
    → (IsTrue (is_test_within levels false true p) → IsTestForm false true p (strict_test false true p)) → IsRight (record { predicate = e; falsifier = f; satisfier = s })
right_of own levels p e n f s is normal_is rows predicate plain skip whole true_form untrue_form =
    let form : HasRowsOf p (normal p) = subst (λ (x : Tree Place). HasRowsOf p x) normal_is rows in
    subst (λ (x : Tree Place). IsRight (record { predicate = x; falsifier = f; satisfier = s })) (sym is)
    (record {
      predicate = predicate;
      plain = plain;
      form = form;
      falsifies = subst (λ (o : Option (Tree Place)). Falsifies o p) (sym skip) (skip_right own levels p plain form true_form);
      satisfies = subst (λ (o : Option (Tree Place)). Satisfies o p) (sym whole) (whole_right own levels p plain form untrue_form);
    })
