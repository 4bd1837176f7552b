-- A binder that answers what it was told is faithful, and honest where that are facts.
use Rattle.std.proofs.Common.{◌≡◌, ◌∙◌, ℕ, Bool, true, false, ◌&&◌, List, [], ◌∷◌, Option, Some, None, refl, sym, ap, subst, rules}
use Rattle.std.specs.Prelude.{MatchBool, Result, Ok, Err, option_map, if◌then◌else◌}
use Rattle.std.specs.List.{AllByRecursion}
use Rattle.std.proofs.lemmas.Bool.{and_parts}
use Rattle.std.proofs.lemmas.Option.{none-some, same_Some}
use Rattle.vortex_expr.proofs.Meanings.MeaningFits.{is_value-as_nullable, null_fits}
use Rattle.vortex_base.specs.declared.aggregate.AggregateFnRef.{AggregateFnRef}
use Rattle.vortex_base.specs.declared.dtype.DType.{DType}
use Rattle.vortex_base.specs.declared.error.BaseError.{BaseError}
use Rattle.vortex_base.specs.declared.scalar_value.ScalarValue.{ScalarValue}
use Rattle.vortex_base.specs.Data.Columns.{ColumnData}
use Rattle.vortex_base.specs.Data.Exact.{IsExact}
use Rattle.vortex_expr.specs.Meanings.Meaning.{meaning}
use Rattle.vortex_base.specs.Data.Scalars.{Constant, is_optional_value, null_of}
use Rattle.vortex_expr.specs.Trees.Tree.{Tree, Place, literal, stat}
use Rattle.vortex_expr.specs.Trees.TreeEq.{aggregate_eq, tree_eq, tree_eq_is_exact}
use Rattle.vortex_base.specs.Data.Types.{as_nullable, dtype_eq_is_exact, eq_ignore_nullability}
use Rattle.vortex_expr.specs.Meanings.Typing.{type_of}
use Rattle.vortex_examples.specs.declared.known.Entry.{Entry}
use Rattle.vortex_examples.specs.Known.{IsKnownOf, KnownFactsAreHonest, found, is_for, known_answer, known_at, known_values, value_found}
use Rattle.vortex_prune.specs.Binding.Binders.{IsAnswerOf, IsFaithful}
use Rattle.vortex_rewrite.specs.Facts.{IsFact, is_over, meanings, size_of}
use Rattle.vortex_prune.specs.Binding.PartBinder.{IsNullOf}
use Rattle.vortex_prune.specs.Binding.PartFaithful.{literal_is_answer}
use Rattle.vortex_rewrite.specs.StateTypes.{as_nullable-again, stat_again}

-- ---- what was found

abbrev place_literal : Constant → Tree Place
place_literal c = literal c

module _ (f : AggregateFnRef) (x : Tree Place) (t : DType) where
  found_type : (es : List Entry) (c : Constant) → found f x t es ≡ Some c → as_nullable c.dtype ≡ as_nullable t
  found_type [] c h = absurd (none-some c h)
  found_type (e ∷ es) c h = by (is_for f x t e) refl (found_type es c) h
    where
      by : (b : Bool) → is_for f x t e ≡ b → (found f x t es ≡ Some c → as_nullable c.dtype ≡ as_nullable t) → (if b then Some e.value else found f x t es) ≡ Some c → as_nullable c.dtype ≡ as_nullable t
      by true i rest k =
          let parts = and_parts (aggregate_eq e.aggregate f) (tree_eq e.input x && eq_ignore_nullability e.value.dtype t) i in
          let typed = and_parts (tree_eq e.input x) (eq_ignore_nullability e.value.dtype t) parts.1 in
          ap (λ (d : Constant). as_nullable d.dtype) (sym (same_Some e.value c k)) ∙ (dtype_eq_is_exact (as_nullable e.value.dtype) (as_nullable t)).0 typed.1
      by false i rest k = rest k

  answered : (o : Option Constant) (r : Tree Place) (row : List Constant) (n : ℕ) → ((c : Constant) → o ≡ Some c → as_nullable c.dtype ≡ as_nullable t) → option_map literal o ≡ Some r
      → IsAnswerOf t row r × (meaning r row n ≡ value_found o)
  answered None r row n h e = absurd (none-some r e)
  answered (Some c) r row n h e =
      let same = same_Some (literal c) r e in
      (literal_is_answer c t row r (sym same) (h c refl), ap (λ y. meaning y row n) (sym same))

  not_found : (o : Option Constant) → option_map (place_literal) o ≡ None → value_found o ≡ None
  not_found None e = refl
  not_found (Some c) e = cc

pub known_is_faithful : (es : List Entry) (row : List Constant) (n : ℕ) → IsFaithful (known_answer es) IsNullOf (known_values es) row n
known_is_faithful es row n = record {
  answers = λ f x t r h e. (answered f x t (found f x t es) r row n (found_type f x t es) e).0;
  named = λ f x t r h e. (answered f x t (found f x t es) r row n (found_type f x t es) e).1 ∙ sym (ap (known_at es f x) h);
  unknown = λ f x t h e. ap (known_at es f x) h ∙ not_found f x t (found f x t es) e;
  missing = λ t r h. literal_is_answer (null_of (as_nullable t)) t row r h (as_nullable-again t);
  null = λ t r h. ap (λ y. meaning y row n) h;
}

-- ---- facts

aggregate_eq_is_exact : IsExact aggregate_eq
aggregate_eq_is_exact a b = search rules

abbrev null : Option ScalarValue
null = None

no_fact : (b : Bool) (f : AggregateFnRef) (xs : List (Option ScalarValue)) (size : Option ℕ) → MatchBool b (IsFact f null xs size) (null ≡ None)
no_fact true f xs size = tt
no_fact false f xs size = refl

weakened : (v : Option ScalarValue) (t : DType) → is_optional_value v t ≡ true → is_optional_value v (as_nullable t) ≡ true
weakened None t h = null_fits t
weakened (Some v) t h = is_value-as_nullable v t ∙ h

module _ (cs : List ColumnData) (f : AggregateFnRef) (x : Tree Place) (t : DType) where
  known_fact : (es : List Entry) → AllByRecursion (IsKnownOf cs) es → MatchBool (is_over x cs) (IsFact f (value_found (found f x t es)) (meanings x cs) (size_of x cs)) (value_found (found f x t es) ≡ None)
  known_fact [] h = no_fact (is_over x cs) f (meanings x cs) (size_of x cs)
  known_fact (e ∷ es) h = by (is_for f x t e) refl (known_fact es h.1)
    where
      by : (b : Bool) → is_for f x t e ≡ b → MatchBool (is_over x cs) (IsFact f (value_found (found f x t es)) (meanings x cs) (size_of x cs)) (value_found (found f x t es) ≡ None)
          → MatchBool (is_over x cs) (IsFact f (value_found (if b then Some e.value else found f x t es)) (meanings x cs) (size_of x cs)) (value_found (if b then Some e.value else found f x t es) ≡ None)
      by true i rest =
          let parts = and_parts (aggregate_eq e.aggregate f) (tree_eq e.input x && eq_ignore_nullability e.value.dtype t) i in
          let typed = and_parts (tree_eq e.input x) (eq_ignore_nullability e.value.dtype t) parts.1 in
          let input : e.input ≡ x = (tree_eq_is_exact e.input x).0 typed.0 in
          let aggregate : e.aggregate ≡ f = (aggregate_eq_is_exact e.aggregate f).0 parts.0 in
          let over : is_over x cs ≡ true = ap (λ y. is_over y cs) (sym input) ∙ h.0.over in
          subst (λ b. MatchBool b (IsFact f e.value.value (meanings x cs) (size_of x cs)) (e.value.value ≡ None)) (sym over)
          (subst (λ y. IsFact f e.value.value (meanings y cs) (size_of y cs)) input (subst (λ g. IsFact g e.value.value (meanings e.input cs) (size_of e.input cs)) aggregate h.0.fact))
      by false i rest = rest

  known_type : (es : List Entry) → AllByRecursion (IsKnownOf cs) es → is_optional_value (value_found (found f x t es)) (as_nullable t) ≡ true
  known_type [] h = null_fits t
  known_type (e ∷ es) h = by (is_for f x t e) refl (known_type es h.1)
    where
      by : (b : Bool) → is_for f x t e ≡ b → is_optional_value (value_found (found f x t es)) (as_nullable t) ≡ true → is_optional_value (value_found (if b then Some e.value else found f x t es)) (as_nullable t) ≡ true
      by true i rest =
          let parts = and_parts (aggregate_eq e.aggregate f) (tree_eq e.input x && eq_ignore_nullability e.value.dtype t) i in
          let typed = and_parts (tree_eq e.input x) (eq_ignore_nullability e.value.dtype t) parts.1 in
          ap (is_optional_value e.value.value) (sym ((dtype_eq_is_exact (as_nullable e.value.dtype) (as_nullable t)).0 typed.1)) ∙ weakened e.value.value e.value.dtype h.0.fits
      by false i rest = rest

fact_at : (es : List Entry) (cs : List ColumnData) → AllByRecursion (IsKnownOf cs) es → (f : AggregateFnRef) (x : Tree Place) (r : Result DType BaseError)
    → MatchBool (is_over x cs) (IsFact f (known_at es f x r) (meanings x cs) (size_of x cs)) (known_at es f x r ≡ None)
fact_at es cs h f x (Ok t) = known_fact cs f x t es h
fact_at es cs h f x (Err e) = no_fact (is_over x cs) f (meanings x cs) (size_of x cs)

pub known_facts_are_honest : KnownFactsAreHonest
known_facts_are_honest es cs h = record {
  facts = λ f x. fact_at es cs h f x (type_of (stat f x));
  types = λ f x t k.
      ap (λ r. is_optional_value (known_at es f x r) t) k
      ∙ ap (is_optional_value (value_found (found f x t es))) (sym (stat_again f (type_of x) t k))
      ∙ known_type cs f x t es h;
}
