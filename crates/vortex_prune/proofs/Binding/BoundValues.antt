-- What a bound expression is worth over a row of statistics over which the binder is faithful.
use Rattle.std.proofs.Common.{◌≡◌, ℕ, Bool, true, false, ◌&&◌, ◌||◌, List, [], Option, Some, None, refl, sym, ap, ap₂, subst, ◌∙◌, inl, inr}
use Rattle.std.specs.Prelude.{◌⊎◌, IsOk, Result, Ok, Err, IfErr, is_none, not as not_b, slice_get}
use mathlib.Core.Bool.{true≢false}
use Rattle.vortex_base.specs.declared.aggregate.AggregateFnRef.{AggregateFnRef}
use Rattle.vortex_base.specs.declared.dtype.DType.{DType}
use Rattle.vortex_base.specs.declared.error.BaseError.{BaseError}
use Rattle.vortex_base.specs.declared.scalar_value.ScalarValue.{ScalarValue}
use Rattle.vortex_base.specs.declared.scalar_value.ScalarValue.TheVariants as value
use Rattle.vortex_base.specs.Data.Columns.{cell_value}
use Rattle.vortex_base.specs.Data.Exact.{both_true}
use Rattle.vortex_expr.specs.Meanings.Fitting.{fits_row}
use Rattle.vortex_expr.specs.Meanings.Meaning.{applied, liked, meaning, opposite, truth, truth_value, within}
use Rattle.vortex_base.specs.Data.Scalars.{Constant}
use Rattle.vortex_expr.specs.Trees.Tree.{Tree, Place, column, literal, binary, between, is_null, is_not_null, not, like, stat, row_count, has_bare_column, has_column, has_placeholder, is_closed}
use Rattle.vortex_base.specs.Data.Types.{as_nullable, dtype_eq_is_exact}
use Rattle.vortex_expr.specs.Meanings.Typing.{between_type, binary_type, like_type, not_type, null_test_type, type_of}
use Rattle.vortex_expr.proofs.Meanings.PlacedTypes.{with_type-ok, with_types-ok, with_three-ok}
use Rattle.vortex_stats.specs.declared.error.BinderFault.TheVariants.{WrongType}
use Rattle.vortex_stats.specs.declared.error.StatsError.{StatsError}
use Rattle.vortex_stats.specs.declared.error.StatsError.TheVariants.{Binder}
use Rattle.vortex_prune.specs.Binding.Binders.{BinderAnswer, IsAnswerOf, IsFaithful}
use Rattle.vortex_prune.specs.Binding.BoundTo.{HasNoColumnOn, IsBinding, IsReplacement, IsWrong, Replaces, SomeMet, binding_causes}
use Rattle.vortex_rewrite.specs.Causes.{IsRefusal}
use Rattle.vortex_rewrite.specs.Rewriting.Proof.{Assignment, value_under}
use Rattle.std.proofs.lemmas.Bool.{or_parts}
use Rattle.vortex_rewrite.proofs.Rewriting.CauseLemmas.{refusal-more}
use Rattle.vortex_prune.specs.Scanning.ScanRefusals.{if_faithful, proof_causes}

-- what is so of a placeholder that is met, whichever it is, is so
pub met-const : (P : Type 0) (e : Tree Place) → SomeMet (λ f x. P) e → P
met-const P (column c) h = absurd h
met-const P (literal c) h = absurd h
met-const P (binary o l r) (inl h) = met-const P l h
met-const P (binary o l r) (inr h) = met-const P r h
met-const P (between o x l u) (inl h) = met-const P x h
met-const P (between o x l u) (inr (inl h)) = met-const P l h
met-const P (between o x l u) (inr (inr h)) = met-const P u h
met-const P (is_null x) h = met-const P x h
met-const P (is_not_null x) h = met-const P x h
met-const P (not x) h = met-const P x h
met-const P (like o x p) (inl h) = met-const P x h
met-const P (like o x p) (inr h) = met-const P p h
met-const P (stat f x) h = h
met-const P row_count h = absurd h

abbrev Table : Type 0
Table = Result DType BaseError

there : (a : Table) → IsOk a → (t : DType) × (a ≡ Ok t)
there (Ok t) h = (t, refl)
there (Err e) h = cc

-- ---- the answers, and what stands for missing ones

module _ (answer : BinderAnswer) (IsMissing : DType → Tree Place → Type 0) (A : Assignment) (row : List Constant) (n : ℕ) (faithful : IsFaithful answer IsMissing A row n) where
  replacement_is_answer : (f : AggregateFnRef) (x : Tree Place) (t : DType) (r : Tree Place) (o : Option (Tree Place)) → type_of (stat f x) ≡ Ok t → answer f x t ≡ o → IsReplacement o (IsMissing t) r → IsAnswerOf t row r
  replacement_is_answer f x t r None h e k = faithful.missing t r k
  replacement_is_answer f x t r (Some a) h e k = faithful.answers f x t r h (e ∙ ap Some (sym k))

  replacement_is_named : (f : AggregateFnRef) (x : Tree Place) (t : DType) (r : Tree Place) (o : Option (Tree Place)) → type_of (stat f x) ≡ Ok t → answer f x t ≡ o → IsReplacement o (IsMissing t) r → meaning r row n ≡ A f x
  replacement_is_named f x t r None h e k = faithful.null t r k ∙ sym (faithful.unknown f x t h e)
  replacement_is_named f x t r (Some a) h e k = faithful.named f x t r h (e ∙ ap Some (sym k))

  of_placeholder : (f : AggregateFnRef) (x r : Tree Place) → IsOk (type_of (stat f x)) → Replaces answer IsMissing f x r → (t : DType) × IsAnswerOf t row r × (meaning r row n ≡ A f x)
  of_placeholder f x r h k =
      let t = there (type_of (stat f x)) h in
      (t.0, replacement_is_answer f x t.0 r (answer f x t.0) t.1 refl (k.0 t.0 t.1), replacement_is_named f x t.0 r (answer f x t.0) t.1 refl (k.0 t.0 t.1))

  not_wrong : (f : AggregateFnRef) (x : Tree Place) → IsWrong answer IsMissing f x → ⊥
  not_wrong f x w =
      let a = replacement_is_answer f x w.0 w.2 (answer f x w.0) w.3 refl w.4 in
      true≢false (sym ((dtype_eq_is_exact (as_nullable w.1) (as_nullable w.0)).1 (a.typed w.1 w.5)) ∙ w.6)

  none_wrong : (e : Tree Place) → SomeMet (IsWrong answer IsMissing) e → ⊥
  none_wrong (column c) h = h
  none_wrong (literal c) h = h
  none_wrong (binary o l r) (inl h) = none_wrong l h
  none_wrong (binary o l r) (inr h) = none_wrong r h
  none_wrong (between o x l u) (inl h) = none_wrong x h
  none_wrong (between o x l u) (inr (inl h)) = none_wrong l h
  none_wrong (between o x l u) (inr (inr h)) = none_wrong u h
  none_wrong (is_null x) h = none_wrong x h
  none_wrong (is_not_null x) h = none_wrong x h
  none_wrong (not x) h = none_wrong x h
  none_wrong (like o x p) (inl h) = none_wrong x h
  none_wrong (like o x p) (inr h) = none_wrong p h
  none_wrong (stat f x) h = not_wrong f x h
  none_wrong row_count h = h

  refused : (can_fault : ℕ → Bool) (e : Tree Place) (f : StatsError) → IsRefusal (binding_causes answer IsMissing can_fault e) f → ¬ (f ≡ Binder WrongType)
  refused can_fault e f h k = none_wrong e (subst (IsRefusal (binding_causes answer IsMissing can_fault e)) k h)

  pub not_wrong_type : (can_fault : ℕ → Bool) (e : Tree Place) (r : Result (Tree Place) StatsError) → IfErr r (IsRefusal (binding_causes answer IsMissing can_fault e)) → IfErr r (λ f. ¬ (f ≡ Binder WrongType))
  not_wrong_type can_fault e (Ok r) h = tt
  not_wrong_type can_fault e (Err f) h = refused can_fault e f h

  -- so what binding a proof is refused for, it is refused for with a faithful binder too
  pub right_type : (can_fault : ℕ → Bool) (e : Tree Place) (f : StatsError) → IsRefusal (binding_causes answer IsMissing can_fault e) f
      → IsRefusal (if_faithful (Some e) (proof_causes answer IsMissing can_fault (Some e))) f
  right_type can_fault e f h =
      refusal-more (binding_causes answer IsMissing can_fault e) (if_faithful (Some e) (proof_causes answer IsMissing can_fault (Some e))) f
      (record { rule = λ k r. r; not_bool = λ r. r; binder = λ k r. r; wrong_type = none_wrong e; open_proof = λ r. absurd r }) h

  -- ---- the whole expression

  pub bound-free : (e r : Tree Place) → IsOk (type_of e) → IsBinding (Replaces answer IsMissing) e r → has_placeholder r ≡ false
  bound-free (column c) r h b = ap has_placeholder b
  bound-free (literal c) r h b = ap has_placeholder b
  bound-free (binary o x y) r h b =
      let w = with_types-ok (binary_type o) (type_of x) (type_of y) h in
      ap has_placeholder b.2 ∙ ap₂ (λ p q. p || q) (bound-free x b.0 w.0 b.3) (bound-free y b.1 w.1 b.4)
  bound-free (between o x l u) r h b =
      let w = with_three-ok between_type (type_of x) (type_of l) (type_of u) h in
      ap has_placeholder b.3 ∙ ap₂ (λ p q. p || q) (bound-free x b.0 w.0 b.4) (ap₂ (λ p q. p || q) (bound-free l b.1 w.1.0 b.5) (bound-free u b.2 w.1.1 b.6))
  bound-free (is_null x) r h b = ap has_placeholder b.1 ∙ bound-free x b.0 (with_type-ok null_test_type (type_of x) h) b.2
  bound-free (is_not_null x) r h b = ap has_placeholder b.1 ∙ bound-free x b.0 (with_type-ok null_test_type (type_of x) h) b.2
  bound-free (not x) r h b = ap has_placeholder b.1 ∙ bound-free x b.0 (with_type-ok not_type (type_of x) h) b.2
  bound-free (like o x p) r h b =
      let w = with_types-ok like_type (type_of x) (type_of p) h in
      ap has_placeholder b.2 ∙ ap₂ (λ p q. p || q) (bound-free x b.0 w.0 b.3) (bound-free p b.1 w.1 b.4)
  bound-free (stat f x) r h b = (of_placeholder f x r h b).1.free
  bound-free row_count r h b = ap has_placeholder b

  abbrev fits : Tree Place → Bool
  fits e = fits_row e row

  pub bound-fits : (e r : Tree Place) → IsOk (type_of e) → has_bare_column e ≡ false → IsBinding (Replaces answer IsMissing) e r → fits_row r row ≡ true
  bound-fits (column c) r h k b = cc
  bound-fits (literal c) r h k b = ap fits b
  bound-fits (binary o x y) r h k b =
      let w = with_types-ok (binary_type o) (type_of x) (type_of y) h in
      let v = or_parts (has_bare_column x) (has_bare_column y) k in
      ap fits b.2 ∙ ap₂ (λ p q. p && q) (bound-fits x b.0 w.0 v.0 b.3) (bound-fits y b.1 w.1 v.1 b.4)
  bound-fits (between o x l u) r h k b =
      let w = with_three-ok between_type (type_of x) (type_of l) (type_of u) h in
      let v = or_parts (has_bare_column x) (has_bare_column l || has_bare_column u) k in
      let z = or_parts (has_bare_column l) (has_bare_column u) v.1 in
      ap fits b.3 ∙ ap₂ (λ p q. p && q) (bound-fits x b.0 w.0 v.0 b.4) (ap₂ (λ p q. p && q) (bound-fits l b.1 w.1.0 z.0 b.5) (bound-fits u b.2 w.1.1 z.1 b.6))
  bound-fits (is_null x) r h k b = ap fits b.1 ∙ bound-fits x b.0 (with_type-ok null_test_type (type_of x) h) k b.2
  bound-fits (is_not_null x) r h k b = ap fits b.1 ∙ bound-fits x b.0 (with_type-ok null_test_type (type_of x) h) k b.2
  bound-fits (not x) r h k b = ap fits b.1 ∙ bound-fits x b.0 (with_type-ok not_type (type_of x) h) k b.2
  bound-fits (like o x p) r h k b =
      let w = with_types-ok like_type (type_of x) (type_of p) h in
      let v = or_parts (has_bare_column x) (has_bare_column p) k in
      ap fits b.2 ∙ ap₂ (λ p q. p && q) (bound-fits x b.0 w.0 v.0 b.3) (bound-fits p b.1 w.1 v.1 b.4)
  bound-fits (stat f x) r h k b = (of_placeholder f x r h b).1.fits
  bound-fits row_count r h k b = ap fits b

  abbrev means : Tree Place → Option ScalarValue
  means e = meaning e row n

  abbrev worth : Tree Place → Option ScalarValue
  worth e = value_under A n e

  -- what is said of a node with no columns on the row is said of its children
  of_two : (x y : Tree Place) → ((has_bare_column x || has_bare_column y) ≡ false) ⊎ (row ≡ []) → HasNoColumnOn x row × HasNoColumnOn y row
  of_two x y (inl k) = let v = or_parts (has_bare_column x) (has_bare_column y) k in (inl v.0, inl v.1)
  of_two x y (inr k) = (inr k, inr k)

  of_three : (x l u : Tree Place) → ((has_bare_column x || (has_bare_column l || has_bare_column u)) ≡ false) ⊎ (row ≡ []) → HasNoColumnOn x row × HasNoColumnOn l row × HasNoColumnOn u row
  of_three x l u (inl k) =
      let v = or_parts (has_bare_column x) (has_bare_column l || has_bare_column u) k in
      let z = or_parts (has_bare_column l) (has_bare_column u) v.1 in
      (inl v.0, inl z.0, inl z.1)
  of_three x l u (inr k) = (inr k, inr k, inr k)

  no_cell : (c : Place) → HasNoColumnOn (column c) row → cell_value (slice_get row c.index) ≡ None
  no_cell c (inl k) = cc
  no_cell c (inr k) = ap (λ (cells : List Constant). cell_value (slice_get cells c.index)) k

  pub bound-value : (e r : Tree Place) → IsOk (type_of e) → HasNoColumnOn e row → IsBinding (Replaces answer IsMissing) e r → meaning r row n ≡ value_under A n e
  bound-value (column c) r h k b = ap means b ∙ no_cell c k
  bound-value (literal c) r h k b = ap means b
  bound-value (binary o x y) r h k b =
      let w = with_types-ok (binary_type o) (type_of x) (type_of y) h in
      let v = of_two x y k in
      ap means b.2 ∙ ap₂ (λ p q. truth_value (applied o p q)) (bound-value x b.0 w.0 v.0 b.3) (bound-value y b.1 w.1 v.1 b.4)
  bound-value (between o x l u) r h k b =
      let w = with_three-ok between_type (type_of x) (type_of l) (type_of u) h in
      let v = of_three x l u k in
      let p = bound-value x b.0 w.0 v.0 b.4 in
      let q = bound-value l b.1 w.1.0 v.1 b.5 in
      let s = bound-value u b.2 w.1.1 v.2 b.6 in
      ap means b.3 ∙ (λ i. truth_value (within o (p i) (q i) (s i)))
  bound-value (is_null x) r h k b = ap means b.1 ∙ ap (λ p. Some (value.Bool (is_none p))) (bound-value x b.0 (with_type-ok null_test_type (type_of x) h) k b.2)
  bound-value (is_not_null x) r h k b = ap means b.1 ∙ ap (λ p. Some (value.Bool (not_b (is_none p)))) (bound-value x b.0 (with_type-ok null_test_type (type_of x) h) k b.2)
  bound-value (not x) r h k b = ap means b.1 ∙ ap (λ p. truth_value (opposite (truth p))) (bound-value x b.0 (with_type-ok not_type (type_of x) h) k b.2)
  bound-value (like o x p) r h k b =
      let w = with_types-ok like_type (type_of x) (type_of p) h in
      let v = of_two x p k in
      ap means b.2 ∙ ap₂ (λ p q. truth_value (liked o p q)) (bound-value x b.0 w.0 v.0 b.3) (bound-value p b.1 w.1 v.1 b.4)
  bound-value (stat f x) r h k b = (of_placeholder f x r h b).2
  bound-value row_count r h k b = ap means b

-- ---- an expression that fits the empty row has no column

no_column : (e : Tree Place) → fits_row e [] ≡ true → has_column e ≡ false
no_column (column c) h = cc
no_column (literal c) h = refl
no_column (binary o l r) h = let w = both_true _ _ h in ap₂ (λ p q. p || q) (no_column l w.0) (no_column r w.1)
no_column (between o x l u) h =
    let w = both_true _ _ h in
    let v = both_true _ _ w.1 in
    ap₂ (λ p q. p || q) (no_column x w.0) (ap₂ (λ p q. p || q) (no_column l v.0) (no_column u v.1))
no_column (is_null x) h = no_column x h
no_column (is_not_null x) h = no_column x h
no_column (not x) h = no_column x h
no_column (like o x p) h = let w = both_true _ _ h in ap₂ (λ p q. p || q) (no_column x w.0) (no_column p w.1)
no_column (stat f x) h = no_column x h
no_column row_count h = refl

pub closed : (e : Tree Place) → has_placeholder e ≡ false → fits_row e [] ≡ true → is_closed e ≡ true
closed e h k = ap₂ (λ p q. not_b p && not_b q) h (no_column e k)

pub has_a_type : (a : Result DType BaseError) (t : DType) → a ≡ Ok t → IsOk a
has_a_type (Ok s) t h = refl
has_a_type (Err e) t h = cc
