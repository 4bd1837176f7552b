-- What the run of all values of a column tells of the column.
use Rattle.std.proofs.Common.{◌≡◌, ℕ, zero, suc, ◌+◌, Bool, true, false, cond, ◌&&◌, List, [], ◌∷◌, length, Option, Some, None, refl, sym, ap, subst, ◌∙◌, arith}
use Rattle.std.specs.Prelude.{Contains, Decides, slice_get, ◌==◌, pos}
use Rattle.std.specs.List.{find, list_all}
use Rattle.std.specs.Ordering.{is_eq, is_gt}
use Rattle.std.specs.Cmp.{Equal-is, tied_itself}
use Rattle.std.specs.Option.{option_map}
use Rattle.std.proofs.lemmas.Bool.{and_from, and_parts, eq-eqb, eqb-true, not-true, not_from_false}
use Rattle.std.proofs.lemmas.Bool.Decides.{same_from_decides}
use Rattle.std.proofs.lemmas.List.Elements.{All-contains, All-contains_itself, All-weaker}
use Rattle.std.proofs.lemmas.List.Sums.{AllPass-from_list_all, list_all-from_AllPass}
use Rattle.std.proofs.lemmas.Option.{get_or_from_slice_get, slice_get_within}
use mathlib.Core.Bool.{true≢false}
use Rattle.vortex_base.specs.declared.dtype.DType.{DType}
use Rattle.vortex_base.specs.declared.pvalue.PValue.{PValue}
use Rattle.vortex_base.specs.declared.scalar_value.ScalarValue.{ScalarValue}
use Rattle.vortex_base.specs.declared.scalar_value.ScalarValue.TheVariants as value
use Rattle.vortex_base.specs.Data.Columns.{value_at}
use Rattle.vortex_base.specs.Data.Values.{value_cmp}
use Rattle.vortex_stats.specs.declared.measure.tally.Run.{Run}
use Rattle.vortex_stats.specs.declared.stat.Stat.TheVariants.{Sum}
use Rattle.vortex_stats.specs.Bounds.Order.{AtMost, equal-of_both}
use Rattle.vortex_stats.specs.Measuring.Codes.{Code, signed_code}
use Rattle.vortex_stats.specs.Measuring.Measured.{max_value, min_value, number_in}
use Rattle.vortex_stats.specs.Measuring.Measures.{AreMeasuresOf}
use Rattle.vortex_stats.specs.Measuring.Tallies.{IsRunOf}
use Rattle.vortex_stats.specs.Merging.Merges.{is_at_most}
use Rattle.vortex_stats.specs.Sets.Claims.{NoneAbove, NoneBelow, is_constant, is_sorted, is_strict_sorted, null_count, present, sum_of}
use Rattle.vortex_stats.specs.Stat.{stat_dtype}
use Rattle.vortex_stats.proofs.Bounds.Ascending.{contains-present, contains_first, contains_later}
use Rattle.vortex_stats.proofs.Bounds.ValueOrder.{value_total, same_from_equal}
use Rattle.vortex_stats.proofs.Measuring.Runs.{present-contains}
use Rattle.vortex_stats.proofs.Merging.Constants.{constant_means, inner}
use Rattle.vortex_stats.proofs.Merging.Counts.{null_count-append}

-- ---- the first value that passes a test that one value passes

found_by : {X : Type 0} (test : X → Bool) (xs : List X) (v : X) → Contains xs v → test v ≡ true → ((u : X) → Contains xs u → test u ≡ true → u ≡ v) → find test xs ≡ Some v
found_by test [] v i h only = absurd (omega (arith, i.1))
found_by test (x ∷ xs) v i h only = elim (test x) as (λ b. test x ≡ b → cond b (Some x) (find test xs) ≡ Some v) [
  | true ↦ λ e. ap Some (only x (contains_first x xs) e)
  | false ↦ λ e. found_by test xs v (behind i e) h (λ u j. only u (contains_later x u xs j))
] refl
  where
    behind : Contains (x ∷ xs) v → test x ≡ false → Contains xs v
    behind (zero, l, e) d = absurd (true≢false (sym h ∙ ap test (sym e) ∙ d))
    behind (suc k, l, e) d = (k, omega arith, e)

contains_at : (xs : List (Option ScalarValue)) (i : ℕ) (v : ScalarValue) → slice_get xs i ≡ Some (Some v) → Contains xs (Some v)
contains_at xs i v h = (i, slice_get_within xs i (Some v) h, get_or_from_slice_get xs i (Some v) (Some v) h)

module _ (xs : List (Option ScalarValue)) (v : ScalarValue) (here : Contains xs (Some v)) where
  same_as : (u : ScalarValue) → AtMost value_cmp u v → AtMost value_cmp v u → u ≡ v
  same_as u p q = same_from_equal u v (equal-of_both value_total u v p q)

  each_passes : (test : ScalarValue → Bool) → ((w : ScalarValue) → Contains xs (Some w) → test w ≡ true) → list_all test (present xs) ≡ true
  each_passes test h = list_all-from_AllPass test (present xs) (All-weaker (Contains (present xs)) (λ w. test w ≡ true) (λ w i. h w (contains-present xs w i)) (present xs) (All-contains_itself (present xs)))

  passes_here : (test : ScalarValue → Bool) → list_all test (present xs) ≡ true → test v ≡ true
  passes_here test h = All-contains (λ w. test w ≡ true) (present xs) v (AllPass-from_list_all test (present xs) h) (present-contains xs v here)

  -- what no value is above is the greatest
  pub greatest_is : NoneAbove v xs → max_value (present xs) ≡ Some v
  greatest_is h =
      found_by (λ u. list_all (λ w. is_at_most w u) (present xs)) (present xs) v (present-contains xs v here)
      (each_passes (λ w. is_at_most w v) (λ w i. not_from_false (is_gt (value_cmp w v)) (h w i)))
      (λ u i t. same_as u (h u (contains-present xs u i)) (not-true (is_gt (value_cmp v u)) (passes_here (λ w. is_at_most w u) t)))

  -- what no value is below is the least
  pub least_is : NoneBelow v xs → min_value (present xs) ≡ Some v
  least_is h =
      found_by (λ u. list_all (λ w. is_at_most u w) (present xs)) (present xs) v (present-contains xs v here)
      (each_passes (λ w. is_at_most v w) (λ w i. not_from_false (is_gt (value_cmp v w)) (h w i)))
      (λ u i t. same_as u (not-true (is_gt (value_cmp u v)) (passes_here (λ w. is_at_most u w) t)) (h u (contains-present xs u i)))

-- ---- whether all are equal

null_differs : (v : ScalarValue) → None ≡ Some v → ⊥
null_differs v e = cc

null_count-cons : (x : Option ScalarValue) (xs : List (Option ScalarValue)) → null_count (x ∷ xs) ≡ null_count (x ∷ []) + null_count xs
null_count-cons x xs = null_count-append (x ∷ []) xs

no_null : (xs : List (Option ScalarValue)) → null_count xs ≡ 0 → Contains xs None → ⊥
no_null [] h i = absurd (omega (arith, i.1))
no_null (None ∷ xs) h i = absurd (omega (arith, null_count-cons None xs))
no_null (Some v ∷ xs) h (zero, l, e) = cc
no_null (Some v ∷ xs) h (suc k, l, e) = no_null xs (omega (arith, null_count-cons (Some v) xs)) (k, omega arith, e)

zero_nulls : (xs : List (Option ScalarValue)) → (Contains xs None → ⊥) → null_count xs ≡ 0
zero_nulls [] h = refl
zero_nulls (None ∷ xs) h = absurd (h (contains_first None xs))
zero_nulls (Some v ∷ xs) h = omega (arith, null_count-cons (Some v) xs, zero_nulls xs (λ i. h (contains_later (Some v) None xs i)))

module _ (xs : List (Option ScalarValue)) (least greatest : ScalarValue) (low_here : Contains xs (Some least)) (high_here : Contains xs (Some greatest)) (low : NoneBelow least xs) (high : NoneAbove greatest xs) where
  each_is : null_count xs ≡ 0 → least ≡ greatest → (x : Option ScalarValue) → Contains xs x → x ≡ Some least
  each_is none same None i = absurd (no_null xs none i)
  each_is none same (Some u) i = ap Some (same_from_equal u least (equal-of_both value_total u least (subst (AtMost value_cmp u) (sym same) (high u i)) (low u i)))

  -- there is no null, and the least value is the greatest
  pub constant_is : ((null_count xs == 0) && is_eq (value_cmp least greatest)) ≡ is_constant xs
  constant_is =
      same_from_decides ((null_count xs == 0) && is_eq (value_cmp least greatest)) (is_constant xs) (
        λ e x y i j.
            let both = and_parts (null_count xs == 0) (is_eq (value_cmp least greatest)) e in
            let none = eqb-true (null_count xs) 0 both.0 in
            let same = same_from_equal least greatest ((Equal-is (value_cmp least greatest)).0 both.1) in
            each_is none same x i ∙ sym (each_is none same y j),
        λ s.
            let none = zero_nulls xs (λ i. null_differs least (s None (Some least) i low_here)) in
            and_from (null_count xs == 0) (is_eq (value_cmp least greatest)) (eq-eqb (null_count xs) 0 none)
            (ap is_eq (ap (value_cmp least) (sym (inner least greatest (s (Some least) (Some greatest) low_here high_here))) ∙ tied_itself value_total least)),
      )
      (constant_means xs)

-- ---- no values

counted : (xs : List (Option ScalarValue)) → ((x : Option ScalarValue) → Contains xs x → x ≡ None) → null_count xs ≡ length xs
counted [] h = refl
counted (None ∷ xs) h = omega (arith, null_count-cons None xs, counted xs (λ x i. h x (contains_later None x xs i)))
counted (Some v ∷ xs) h = absurd (null_differs v (sym (h (Some v) (contains_first (Some v) xs))))

module _ (xs : List (Option ScalarValue)) (none : present xs ≡ []) where
  all_null : (x : Option ScalarValue) → Contains xs x → x ≡ None
  all_null None i = refl
  all_null (Some v) i = absurd (omega (arith, (subst (λ vs. Contains vs v) none (present-contains xs v i)).1))

  nulls_alone : null_count xs ≡ length xs
  nulls_alone = counted xs all_null

  pub constant_of_nulls : is_constant xs ≡ true
  constant_of_nulls = (constant_means xs).1 (λ x y i j. all_null x i ∙ sym (all_null y j))

-- ---- the measures of a tally

module _ {K : Type 0} (code : K → Code) (t : DType) (sum : Option PValue) (xs : List (Option ScalarValue)) (summed : option_map value.Primitive sum ≡ number_in (stat_dtype Sum t) (sum_of (present xs))) where
  pub measures_of_nulls : (nulls : ℕ) → nulls ≡ null_count xs → present xs ≡ []
      → AreMeasuresOf (record { nulls = nulls; is_constant = true; is_sorted = true; is_strict_sorted = true; greatest = None; least = None; sum = sum }) t xs
  measures_of_nulls nulls counted none = record {
    nulls = counted;
    constant = sym (constant_of_nulls xs none);
    sorted = sym (ap is_sorted none);
    strict_sorted = sym (ap is_strict_sorted none);
    greatest = sym (ap max_value none);
    greatest_within = tt;
    least = sym (ap min_value none);
    least_within = tt;
    sum = summed;
  }

  pub measures_of_run : (nulls : ℕ) (r : Run K) (constant : Bool) (q : IsRunOf code t r xs) → nulls ≡ null_count xs → constant ≡ ((nulls == 0) && is_eq (value_cmp q.least q.greatest))
      → AreMeasuresOf (record { nulls = nulls; is_constant = constant; is_sorted = r.is_sorted; is_strict_sorted = r.is_strict_sorted; greatest = Some r.greatest_at; least = Some r.least_at; sum = sum }) t xs
  measures_of_run nulls r constant q counted all_equal =
      let low = contains_at xs r.least_at q.least q.least_at in
      let high = contains_at xs r.greatest_at q.greatest q.greatest_at in
      record {
        nulls = counted;
        constant = all_equal ∙ ap (λ n. (n == 0) && is_eq (value_cmp q.least q.greatest)) counted ∙ constant_is xs q.least q.greatest low high q.none_below q.none_above;
        sorted = q.sorted;
        strict_sorted = q.strict_sorted;
        greatest = ap value_at q.greatest_at ∙ sym (greatest_is xs q.greatest high q.none_above);
        greatest_within = slice_get_within xs r.greatest_at (Some q.greatest) q.greatest_at;
        least = ap value_at q.least_at ∙ sym (least_is xs q.least low q.none_below);
        least_within = slice_get_within xs r.least_at (Some q.least) q.least_at;
        sum = summed;
      }

pub measures_of_nulls_alone : (t : DType) (xs : List (Option ScalarValue)) (sum : Option PValue) (count : ℕ) → length xs ≡ count → present xs ≡ [] → option_map value.Primitive sum ≡ number_in (stat_dtype Sum t) (pos 0)
    → AreMeasuresOf (record { nulls = count; is_constant = true; is_sorted = true; is_strict_sorted = true; greatest = None; least = None; sum = sum }) t xs
measures_of_nulls_alone t xs sum count long none summed =
    measures_of_nulls signed_code t sum xs (summed ∙ ap (λ vs. number_in (stat_dtype Sum t) (sum_of vs)) (sym none)) count (sym long ∙ sym (nulls_alone xs none)) none
