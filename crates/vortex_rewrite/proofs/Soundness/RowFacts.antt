-- Facts of the rows of a chunk are right of each row.
use Rattle.std.proofs.Common.{◌≡◌, ℕ, zero, suc, ◌+◌, ◌<◌, Bool, true, false, not, List, [], ◌∷◌, length, Option, Some, None, refl, sym, ap, ◌∙◌, subst, arith, cond}
use Rattle.std.specs.Prelude.{◌==◌, Contains, MatchBool, is_none}
use Rattle.std.proofs.lemmas.Bool.{eqb-true}
use Rattle.std.proofs.lemmas.List.FromFn.{length-map-range_with_len, get_or-map-range_with_len}
use Rattle.std.proofs.lemmas.List.Sums.{count_by-le-length, sum_by-cons}
use Rattle.vortex_base.specs.Data.Columns.{ColumnData, row_count as rows_of, row_of}
use Rattle.vortex_expr.specs.Meanings.Meaning.{meaning}
use Rattle.vortex_expr.specs.Trees.Tree.{Tree, Place}
use Rattle.vortex_base.specs.declared.aggregate.AggregateFnRef.{AggregateFnRef}
use Rattle.vortex_base.specs.declared.aggregate.AggregateFnRef.TheVariants.{Max, Min, NullCount, AllNull, AllNonNull}
use Rattle.vortex_base.specs.declared.scalar_value.ScalarValue.{ScalarValue}
use Rattle.vortex_base.specs.declared.scalar_value.ScalarValue.TheVariants as value
use Rattle.vortex_stats.specs.Sets.Claims.{NoneAbove, NoneBelow, null_count, count_value}
use Rattle.vortex_rewrite.proofs.Soundness.RowRules.{Bounds, IsNotAbove, IsNotBelow, IsRight}
use Rattle.vortex_rewrite.specs.Facts.{IsFact, IsHonest, Says, is_over, meanings, size_of}
use Rattle.vortex_rewrite.specs.Rewriting.Proof.{Assignment}

-- ---- counts of nulls

count_head : (v : Option ScalarValue) (vs : List (Option ScalarValue)) → null_count (v ∷ vs) ≡ cond (is_none v) 1 0 + null_count vs
count_head v vs = sum_by-cons (λ x. cond (is_none x) 1 0) v vs

none_counted : (xs : List (Option ScalarValue)) (v : Option ScalarValue) → null_count xs ≡ 0 → Contains xs v → is_none v ≡ false
none_counted [] v h i = absurd (omega (arith, i.1))
none_counted (x ∷ xs) v h (zero, l, e) = ap is_none (sym e) ∙ first (is_none x) (sym (count_head x xs) ∙ h)
  where
    first : (b : Bool) → cond b 1 0 + null_count xs ≡ 0 → b ≡ false
    first true h = absurd (omega arith)
    first false h = refl
none_counted (x ∷ xs) v h (suc k, l, e) = none_counted xs v (omega (arith, count_head x xs)) (k, omega arith, e)

all_counted : (xs : List (Option ScalarValue)) (v : Option ScalarValue) → null_count xs ≡ length xs → Contains xs v → is_none v ≡ true
all_counted [] v h i = absurd (omega (arith, i.1))
all_counted (x ∷ xs) v h (zero, l, e) = ap is_none (sym e) ∙ first (is_none x) (sym (count_head x xs) ∙ h)
  where
    first : (b : Bool) → cond b 1 0 + null_count xs ≡ suc (length xs) → b ≡ true
    first true h = refl
    first false h = absurd (omega (arith, count_by-le-length is_none xs))
all_counted (x ∷ xs) v h (suc k, l, e) = all_counted xs v (rest (is_none x) (sym (count_head x xs) ∙ h)) (k, omega arith, e)
  where
    rest : (b : Bool) → cond b 1 0 + null_count xs ≡ suc (length xs) → null_count xs ≡ length xs
    rest true h = omega arith
    rest false h = absurd (omega (arith, count_by-le-length is_none xs))

-- ---- one row

above_at : (v : ScalarValue) (xs : List (Option ScalarValue)) (x : Option ScalarValue) → NoneAbove v xs → Contains xs x → IsNotAbove v x
above_at v xs None h i = tt
above_at v xs (Some w) h i = ap not (h w i)

below_at : (v : ScalarValue) (xs : List (Option ScalarValue)) (x : Option ScalarValue) → NoneBelow v xs → Contains xs x → IsNotBelow v x
below_at v xs None h i = tt
below_at v xs (Some w) h i = ap not (h w i)

truths_same : (b c : Bool) → value.Bool b ≡ value.Bool c → b ≡ c
truths_same b c e = cc

counts_same : (m n : ℕ) → count_value m ≡ count_value n → m ≡ n
counts_same m n e = cc

module _ (A : Assignment) (cs : List ColumnData) (honest : IsHonest A cs) where
  fact_of : (b : Bool) (f : AggregateFnRef) (o : Option ScalarValue) (xs : List (Option ScalarValue)) (size : Option ℕ) → MatchBool b (IsFact f o xs size) (o ≡ None) → IsFact f o xs size
  fact_of true f o xs size h = h
  fact_of false f o xs size h = subst (λ p. IsFact f p xs size) (sym h) tt

  fact : (f : AggregateFnRef) (x : Tree Place) → IsFact f (A f x) (meanings x cs) (size_of x cs)
  fact f x = fact_of (is_over x cs) f (A f x) (meanings x cs) (size_of x cs) (honest.facts f x)

  -- a fact whose value is known
  says : (f : AggregateFnRef) (x : Tree Place) (v : ScalarValue) → A f x ≡ Some v → Says f v (meanings x cs) (size_of x cs)
  says f x v e = subst (λ o. IsFact f o (meanings x cs) (size_of x cs)) e (fact f x)

  meanings_long : (x : Tree Place) → length (meanings x cs) ≡ rows_of cs
  meanings_long x = length-map-range_with_len (λ i. meaning x (row_of i cs) (rows_of cs)) 0 (rows_of cs)

  bounded : (P : ScalarValue → Option ScalarValue → Type 0) (o : Option ScalarValue) (x : Option ScalarValue) → ((v : ScalarValue) → o ≡ Some v → P v x) → Bounds P o x
  bounded P None x h = tt
  bounded P (Some v) x h = h v refl

  module _ (i : ℕ) (here : i < rows_of cs) where
    at_row : (x : Tree Place) → Contains (meanings x cs) (meaning x (row_of i cs) (rows_of cs))
    at_row x = (
      i,
      omega (arith, meanings_long x),
      get_or-map-range_with_len (λ j. meaning x (row_of j cs) (rows_of cs)) 0 (rows_of cs) i i (meaning x (row_of i cs) (rows_of cs)) here (omega arith),
    )

    no_nulls : (x : Tree Place) → null_count (meanings x cs) ≡ 0 → is_none (meaning x (row_of i cs) (rows_of cs)) ≡ false
    no_nulls x h = none_counted (meanings x cs) (meaning x (row_of i cs) (rows_of cs)) h (at_row x)

    nulls_alone : (x : Tree Place) → null_count (meanings x cs) ≡ length (meanings x cs) → is_none (meaning x (row_of i cs) (rows_of cs)) ≡ true
    nulls_alone x h = all_counted (meanings x cs) (meaning x (row_of i cs) (rows_of cs)) h (at_row x)

    pub right_at : IsRight A (row_of i cs) (rows_of cs)
    right_at = record {
      max = λ x. bounded IsNotAbove (A Max x) (meaning x (row_of i cs) (rows_of cs)) (λ v e. above_at v (meanings x cs) (meaning x (row_of i cs) (rows_of cs)) (says Max x v e) (at_row x));
      min = λ x. bounded IsNotBelow (A Min x) (meaning x (row_of i cs) (rows_of cs)) (λ v e. below_at v (meanings x cs) (meaning x (row_of i cs) (rows_of cs)) (says Min x v e) (at_row x));
      no_null = λ x e. no_nulls x (sym (counts_same 0 (null_count (meanings x cs)) (says NullCount x (count_value 0) e)));
      all_nulls = λ x e. nulls_alone x (sym (counts_same (rows_of cs) (null_count (meanings x cs)) (says NullCount x (count_value (rows_of cs)) e)) ∙ sym (meanings_long x));
      none_null = λ x e. no_nulls x (eqb-true (null_count (meanings x cs)) 0 (sym (truths_same true (null_count (meanings x cs) == 0) (says AllNonNull x (value.Bool true) e))));
      every_null = λ x e.
          nulls_alone x (eqb-true (null_count (meanings x cs)) (length (meanings x cs)) (sym (truths_same true (null_count (meanings x cs) == length (meanings x cs)) (says AllNull x (value.Bool true) e))));
      rows = omega arith;
    }
