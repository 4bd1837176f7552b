-- A proof that is bound and closed has its value on the row with no columns.
use Rattle.std.proofs.Common.{◌≡◌, ◌||◌, ℕ, true, false, not as not_b, List, [], Option, None, Result, IsTrue, cond, refl, sym, ap, ◌∙◌, inl, inr}
use Rattle.std.proofs.lemmas.Bool.{cases_Bool, or_parts, not-true}
use Rattle.vortex_base.specs.Answer.{Answers, Makes}
use Rattle.vortex_base.specs.Data.Exact.{both_hold, both_true}
use Rattle.vortex_base.specs.Data.Scalars.{Constant}
use Rattle.vortex_expr.specs.Meanings.Fitting.{fits_row}
use Rattle.vortex_expr.specs.Meanings.Meaning.{can_evaluate, is_true, meaning}
use Rattle.vortex_expr.specs.Trees.Tree.{Tree, Place, column, literal, binary, between, is_null, is_not_null, not, like, stat, row_count, has_bare_column, has_column, has_placeholder, is_closed}
use Rattle.vortex_base.specs.declared.aggregate.AggregateFnRef.{AggregateFnRef}
use Rattle.vortex_base.specs.declared.error.BaseError.{BaseError}
use Rattle.vortex_base.specs.declared.scalar_value.ScalarValue.{ScalarValue}
use Rattle.vortex_prune.proofs.Binding.BoundValues.{closed}
use Rattle.vortex_prune.specs.Binding.BoundTo.{IsBinding}
use Rattle.vortex_rewrite.specs.Rewriting.Proof.{Assignment, proves, value_under}
use Rattle.vortex_rewrite.proofs.Logic.{or_more}

-- ---- a closed expression is evaluated on the row with no columns

fits_none : (e : Tree Place) → has_column e ≡ false → fits_row e [] ≡ true
fits_none (column c) h = absurd cc
fits_none (literal c) h = refl
fits_none (binary o l r) h = let w = or_parts (has_column l) (has_column r) h in both_hold _ _ (fits_none l w.0) (fits_none r w.1)
fits_none (between o x l u) h =
    let w = or_parts (has_column x) (has_column l || has_column u) h in
    let v = or_parts (has_column l) (has_column u) w.1 in
    both_hold _ _ (fits_none x w.0) (both_hold _ _ (fits_none l v.0) (fits_none u v.1))
fits_none (is_null x) h = fits_none x h
fits_none (is_not_null x) h = fits_none x h
fits_none (not x) h = fits_none x h
fits_none (like o x p) h = let w = or_parts (has_column x) (has_column p) h in both_hold _ _ (fits_none x w.0) (fits_none p w.1)
fits_none (stat f x) h = fits_none x h
fits_none row_count h = refl

-- so it can be evaluated there
pub closed_free : (e : Tree Place) → is_closed e ≡ true → has_placeholder e ≡ false
closed_free e h = not-true (has_placeholder e) (both_true (not_b (has_placeholder e)) (not_b (has_column e)) h).0

pub closed_fits : (e : Tree Place) (row : List Constant) → is_closed e ≡ true → row ≡ [] → fits_row e row ≡ true
closed_fits e row h is = ap (fits_row e) is ∙ fits_none e (not-true (has_column e) (both_true (not_b (has_placeholder e)) (not_b (has_column e)) h).1)

-- the value of an expression on a row that it can be evaluated on, unless memory is refused
pub row_value : (e : Tree Place) (row : List Constant) (n : ℕ) (r : Result (Option ScalarValue) BaseError) → has_placeholder e ≡ false → fits_row e row ≡ true
    → Answers (can_evaluate e row) (meaning e row n) r → Makes (meaning e row n) r
row_value e row n r free fits a = rw (free, fits) at a

-- ---- a column outside the placeholders of a proof stays when the proof is bound

module _ (R : AggregateFnRef → Tree Place → Tree Place → Type 0) where
  bare_stays : (e r : Tree Place) → IsBinding R e r → has_bare_column e ≡ true → has_column r ≡ true
  bare_stays (column c) r b h = ap has_column b
  bare_stays (literal c) r b h = absurd cc
  bare_stays (binary o l k) r b h =
      ap has_column b.2 ∙ or_more (has_bare_column l) (has_bare_column k) (has_column b.0) (has_column b.1) (bare_stays l b.0 b.3) (bare_stays k b.1 b.4) h
  bare_stays (between o x l u) r b h =
      ap has_column b.3 ∙ or_more (has_bare_column x) (has_bare_column l || has_bare_column u) (has_column b.0) (has_column b.1 || has_column b.2) (bare_stays x b.0 b.4)
      (or_more (has_bare_column l) (has_bare_column u) (has_column b.1) (has_column b.2) (bare_stays l b.1 b.5) (bare_stays u b.2 b.6)) h
  bare_stays (is_null x) r b h = ap has_column b.1 ∙ bare_stays x b.0 b.2 h
  bare_stays (is_not_null x) r b h = ap has_column b.1 ∙ bare_stays x b.0 b.2 h
  bare_stays (not x) r b h = ap has_column b.1 ∙ bare_stays x b.0 b.2 h
  bare_stays (like o x p) r b h =
      ap has_column b.2 ∙ or_more (has_bare_column x) (has_bare_column p) (has_column b.0) (has_column b.1) (bare_stays x b.0 b.3) (bare_stays p b.1 b.4) h
  bare_stays (stat f x) r b h = absurd cc
  bare_stays row_count r b h = absurd cc

  no_bare : (e r : Tree Place) → IsBinding R e r → is_closed r ≡ true → has_bare_column e ≡ false
  no_bare e r b h =
      let w = not-true (has_column r) (both_true (not_b (has_placeholder r)) (not_b (has_column r)) h).1 in
      elim (cases_Bool (has_bare_column e)) [ inl bare ↦ (let held = bare_stays e r b bare in cc) | inr free ↦ free ]

  -- the truth of a closed answer is that of the proof
  pub closed_proves : (e r : Tree Place) (A : Assignment) (n : ℕ) → IsBinding R e r → is_closed r ≡ true → meaning r [] n ≡ value_under A n e → is_true (meaning r [] n) ≡ proves e A n
  closed_proves e r A n b h same = ap is_true same ∙ sym (ap (λ t. is_true (cond t None (value_under A n e))) (no_bare e r b h))

-- an answer that holds no placeholder and fits the row with no columns is closed, so one that is left open comes of a column of the proof
pub open_is_bare : (e r : Tree Place) → has_placeholder r ≡ false → (has_bare_column e ≡ false → IsTrue (fits_row r [])) → is_closed r ≡ false → has_bare_column e ≡ true
open_is_bare e r free fits h =
    elim (cases_Bool (has_bare_column e)) [ inl bare ↦ bare | inr none ↦ (let shut = closed r free (fits none) in cc) ]
