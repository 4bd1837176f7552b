-- What is measured of a column is true of it, and which of it is copied.
use Rattle.std.proofs.Common.{◌≡◌, ℕ, zero, suc, Bool, true, false, cond, ◌||◌, List, [], ◌∷◌, Option, Some, None, refl, sym, ap, subst, ◌∙◌}
use Rattle.std.specs.Prelude.{Contains, ℤ, pos, negsuc, slice_get}
use Rattle.std.specs.List.{cons_option, filter_map, find, list_all, list_any}
use Rattle.std.specs.Option.{option_map}
use Rattle.std.proofs.lemmas.Bool.{and_from, not-true}
use Rattle.std.proofs.lemmas.List.Elements.{All-contains}
use Rattle.std.proofs.lemmas.List.Sums.{AllPass-from_list_all}
use Rattle.std.specs.Ordering.{is_gt}
use mathlib.Core.Bool.{true≢false}
use Rattle.vortex_base.specs.declared.dtype.DType.{DType}
use Rattle.vortex_base.specs.declared.dtype.DType.TheVariants as dtype
use Rattle.vortex_base.specs.declared.types.Nullability.{Nullability}
use Rattle.vortex_base.specs.declared.types.Nullability.TheVariants.{NonNullable}
use Rattle.vortex_base.specs.declared.types.PType.{PType}
use Rattle.vortex_base.specs.declared.types.PType.TheVariants as ptype
use Rattle.vortex_base.specs.declared.pvalue.PValue.TheVariants as number
use Rattle.vortex_base.specs.declared.scalar_value.ScalarValue.{ScalarValue}
use Rattle.vortex_base.specs.declared.scalar_value.ScalarValue.TheVariants as value
use Rattle.vortex_base.specs.Data.Columns.{ColumnData, IsColumn}
use Rattle.vortex_base.specs.Data.Values.{in_range, is_value, value_cmp, whole}
use Rattle.vortex_base.specs.Data.Scalars.{is_long}
use Rattle.vortex_stats.specs.declared.stat.Stat.{Stat}
use Rattle.vortex_stats.specs.declared.stat.Stat.TheVariants.{IsConstant, IsSorted, IsStrictSorted, Max, Min, Sum, NullCount, UncompressedSizeInBytes, NaNCount}
use Rattle.vortex_stats.specs.declared.precision.Precision.{Precision}
use Rattle.vortex_stats.specs.declared.precision.Precision.TheVariants.{Exact, Absent}
use Rattle.vortex_stats.specs.Copies.{holds_long, is_copied}
use Rattle.vortex_stats.specs.Measuring.Measured.{each_once, max_value, measured, measured_entry, measured_value, measuring_copies, min_value, number_in}
use Rattle.vortex_stats.specs.Measuring.Told.{exactly, told}
use Rattle.vortex_stats.specs.Merging.Merges.{is_at_most}
use Rattle.vortex_stats.specs.Sets.Claims.{Claims, ClaimsCount, ClaimsMax, ClaimsMin, ClaimsSum, IsTrueOf, NoneAbove, NoneBelow, null_count, present, sum_of}
use Rattle.vortex_stats.specs.Sets.Entries.{entries_fit, entry_value, is_entry_of, is_value_of}
use Rattle.vortex_stats.specs.Stat.{extreme_dtype, stat_dtype, stat_eq, stat_eq-itself}
use Rattle.vortex_stats.proofs.Bounds.Ascending.{contains-present, contains_first, contains_later}
use Rattle.vortex_stats.proofs.Measuring.MeasuredSets.{entry_value-measured, is_among}
use Rattle.vortex_stats.proofs.Measuring.Passes.{value_in_column}
use Rattle.vortex_stats.proofs.Measuring.Runs.{present-contains}
use Rattle.vortex_stats.proofs.Merging.Constants.{inner}

-- ---- the greatest and the least value

find_step : {X : Type 0} (test : X → Bool) (x : X) (xs : List X) (v : X) → (find test xs ≡ Some v → Contains xs v × (test v ≡ true)) → (b : Bool) → test x ≡ b → cond b (Some x) (find test xs) ≡ Some v
    → Contains (x ∷ xs) v × (test v ≡ true)
find_step test x xs v ih true e h = let same : x ≡ v = cc in (subst (Contains (x ∷ xs)) same (contains_first x xs), ap test (sym same) ∙ e)
find_step test x xs v ih false e h = let r = ih h in (contains_later x v xs r.0, r.1)

-- what is found is there, and passes
found_is : {X : Type 0} (test : X → Bool) (xs : List X) (v : X) → find test xs ≡ Some v → Contains xs v × (test v ≡ true)
found_is test [] v h = absurd (cc)
found_is test (x ∷ xs) v h = find_step test x xs v (found_is test xs v) (test x) refl h

module _ (xs : List (Option ScalarValue)) (v : ScalarValue) where
  pub greatest_claims : max_value (present xs) ≡ Some v → Contains xs (Some v) × NoneAbove v xs
  greatest_claims h =
      let r = found_is (λ u. list_all (λ w. is_at_most w u) (present xs)) (present xs) v h in (
        contains-present xs v r.0,
        λ w i. not-true (is_gt (value_cmp w v)) (All-contains (λ u. is_at_most u v ≡ true) (present xs) w (AllPass-from_list_all (λ u. is_at_most u v) (present xs) r.1) (present-contains xs w i)),
      )

  pub least_claims : min_value (present xs) ≡ Some v → Contains xs (Some v) × NoneBelow v xs
  least_claims h =
      let r = found_is (λ u. list_all (λ w. is_at_most u w) (present xs)) (present xs) v h in (
        contains-present xs v r.0,
        λ w i. not-true (is_gt (value_cmp v w)) (All-contains (λ u. is_at_most v u ≡ true) (present xs) w (AllPass-from_list_all (λ u. is_at_most v u) (present xs) r.1) (present-contains xs w i)),
      )

-- ---- numbers of the types of sums and counts

in_i64 : (n : Nullability) (z : ℤ) (v : ScalarValue) → number_in (Some (dtype.Primitive ptype.I64 n)) z ≡ Some v → (in_range (number.I64 z) ≡ true) × (value.Primitive (number.I64 z) ≡ v)
in_i64 n z v h = elim (in_range (number.I64 z)) as (λ b. cond b (Some (value.Primitive (number.I64 z))) None ≡ Some v → (b ≡ true) × (value.Primitive (number.I64 z) ≡ v)) [
  | true ↦ λ e. (refl, inner (value.Primitive (number.I64 z)) v e)
  | false ↦ λ e. absurd (cc)
] h

in_u64 : (n : Nullability) (k : ℕ) (v : ScalarValue) → number_in (Some (dtype.Primitive ptype.U64 n)) (pos k) ≡ Some v → (in_range (number.U64 k) ≡ true) × (value.Primitive (number.U64 k) ≡ v)
in_u64 n k v h = elim (in_range (number.U64 k)) as (λ b. cond b (Some (value.Primitive (number.U64 k))) None ≡ Some v → (b ≡ true) × (value.Primitive (number.U64 k) ≡ v)) [
  | true ↦ λ e. (refl, inner (value.Primitive (number.U64 k)) v e)
  | false ↦ λ e. absurd (cc)
] h

-- such a number is a value of the type, and the number itself
pub number_fits : (o : Option DType) (z : ℤ) (v : ScalarValue) → number_in o z ≡ Some v → (is_value_of o v ≡ true) × (whole v ≡ z)
number_fits (Some (dtype.Primitive ptype.U64 n)) (pos k) v h = let r = in_u64 n k v h in subst (λ u. (is_value u (dtype.Primitive ptype.U64 n) ≡ true) × (whole u ≡ pos k)) r.1 (r.0, refl)
number_fits (Some (dtype.Primitive ptype.U64 n)) (negsuc k) v h = absurd (cc)
number_fits (Some (dtype.Primitive ptype.I64 n)) z v h = let r = in_i64 n z v h in subst (λ u. (is_value u (dtype.Primitive ptype.I64 n) ≡ true) × (whole u ≡ z)) r.1 (r.0, refl)
number_fits o z v h = absurd (cc)

-- ---- each value is of its statistic's type

extreme_fits : (t : DType) (v : ScalarValue) → is_value v t ≡ true → is_value_of (extreme_dtype t) v ≡ true
extreme_fits dtype.Null (value.Bool b) h = absurd (true≢false (sym h))
extreme_fits dtype.Null (value.Primitive p) h = absurd (true≢false (sym h))
extreme_fits dtype.Null (value.Utf8 bs) h = absurd (true≢false (sym h))
extreme_fits dtype.Null (value.Binary bs) h = absurd (true≢false (sym h))
extreme_fits (dtype.Bool n) v h = h
extreme_fits (dtype.Primitive p n) v h = h
extreme_fits (dtype.Utf8 n) v h = h
extreme_fits (dtype.Binary n) v h = h
extreme_fits (dtype.MinMaxState e n) v h = h

truth_fits : (b : Bool) (t : DType) (v : ScalarValue) → Some (value.Bool b) ≡ Some v → is_value_of (stat_dtype IsConstant t) v ≡ true
truth_fits b t v h = subst (λ u. is_value_of (stat_dtype IsConstant t) u ≡ true) (inner (value.Bool b) v h) refl

module _ (c : ColumnData) (fits : IsColumn c) where
  measured_fits : (s : Stat) (v : ScalarValue) → measured_value s c ≡ Some v → is_value_of (stat_dtype s c.dtype) v ≡ true
  measured_fits IsConstant v h = truth_fits _ c.dtype v h
  measured_fits IsSorted v h = truth_fits _ c.dtype v h
  measured_fits IsStrictSorted v h = truth_fits _ c.dtype v h
  measured_fits Max v h = extreme_fits c.dtype v (value_in_column c.dtype c.values v fits (greatest_claims c.values v h).0)
  measured_fits Min v h = extreme_fits c.dtype v (value_in_column c.dtype c.values v fits (least_claims c.values v h).0)
  measured_fits Sum v h = (number_fits (stat_dtype Sum c.dtype) (sum_of (present c.values)) v h).0
  measured_fits NullCount v h = (number_fits (stat_dtype NullCount c.dtype) (pos (null_count c.values)) v h).0
  measured_fits UncompressedSizeInBytes v h = (number_fits (stat_dtype UncompressedSizeInBytes c.dtype) (pos c.size) v h).0
  measured_fits NaNCount v h = absurd (cc)

  fits_step : (s : Stat) (us : List Stat) → entries_fit (filter_map (measured_entry c) us) c.dtype ≡ true → (o : Option ScalarValue) → measured_value s c ≡ o
      → entries_fit (cons_option (option_map (λ v. (s, Exact v)) o) (filter_map (measured_entry c) us)) c.dtype ≡ true
  fits_step s us ih None h = ih
  fits_step s us ih (Some v) h = and_from (is_value_of (stat_dtype s c.dtype) v) (entries_fit (filter_map (measured_entry c) us) c.dtype) (measured_fits s v h) ih

  all_entries_fit : (us : List Stat) → entries_fit (filter_map (measured_entry c) us) c.dtype ≡ true
  all_entries_fit [] = refl
  all_entries_fit (s ∷ us) = fits_step s us (all_entries_fit us) (measured_value s c) refl

-- ---- each claims what holds

absent_claims : (s : Stat) (c : ColumnData) → Claims s Absent c
absent_claims IsConstant c = tt
absent_claims IsSorted c = tt
absent_claims IsStrictSorted c = tt
absent_claims Max c = tt
absent_claims Min c = tt
absent_claims Sum c = tt
absent_claims NullCount c = tt
absent_claims UncompressedSizeInBytes c = tt
absent_claims NaNCount c = tt

exactly_has : (P : Precision ScalarValue → Type 0) (o : Option ScalarValue) → P Absent → ((v : ScalarValue) → o ≡ Some v → P (Exact v)) → P (exactly o)
exactly_has P None none some = none
exactly_has P (Some v) none some = some v refl

told_claims : (c : ColumnData) (s : Stat) → Claims s (told c s) c
told_claims c IsConstant = refl
told_claims c IsSorted = refl
told_claims c IsStrictSorted = refl
told_claims c Max = exactly_has (λ p. ClaimsMax p c.values) (max_value (present c.values)) tt (greatest_claims c.values)
told_claims c Min = exactly_has (λ p. ClaimsMin p c.values) (min_value (present c.values)) tt (least_claims c.values)
told_claims c Sum = exactly_has (λ p. ClaimsSum p (sum_of (present c.values))) (measured_value Sum c) tt (λ v h. (number_fits (stat_dtype Sum c.dtype) _ v h).1)
told_claims c NullCount = exactly_has (λ p. ClaimsCount p (null_count c.values)) (measured_value NullCount c) tt (λ v h. sym (in_u64 NonNullable (null_count c.values) v h).1)
told_claims c UncompressedSizeInBytes = exactly_has (λ p. ClaimsCount p c.size) (measured_value UncompressedSizeInBytes c) tt (λ v h. sym (in_u64 NonNullable c.size v h).1)
told_claims c NaNCount = tt

wanted_claims : (c : ColumnData) (s : Stat) (b : Bool) → Claims s (cond b (told c s) Absent) c
wanted_claims c s true = told_claims c s
wanted_claims c s false = absent_claims s c

-- what is measured of a column is true of it
pub measured_is_true : (wanted : List Stat) (c : ColumnData) → IsColumn c → IsTrueOf (measured wanted c) c
measured_is_true wanted c fits = record {
  fits = all_entries_fit c fits (each_once wanted);
  claims = λ s. subst (λ p. Claims s p c) (sym (entry_value-measured c s wanted)) (wanted_claims c s (is_among s wanted));
}

-- ---- what is copied

or_second : (b c : Bool) → c ≡ true → (b || c) ≡ true
or_second true c h = refl
or_second false c h = h

copied_step : (s : Stat) (e : Stat × Precision ScalarValue) (es : List (Stat × Precision ScalarValue)) → (is_copied (entry_value s es) ≡ true → list_any (λ f. is_copied f.1) es ≡ true)
    → (b : Bool) → is_copied (cond b e.1 (entry_value s es)) ≡ true → (is_copied e.1 || list_any (λ f. is_copied f.1) es) ≡ true
copied_step s e es ih true h = ap (λ b. b || list_any (λ f. is_copied f.1) es) h
copied_step s e es ih false h = or_second (is_copied e.1) (list_any (λ f. is_copied f.1) es) (ih h)

copied_is_listed : (s : Stat) (es : List (Stat × Precision ScalarValue)) → is_copied (entry_value s es) ≡ true → list_any (λ e. is_copied e.1) es ≡ true
copied_is_listed s [] h = absurd (true≢false (sym h))
copied_is_listed s (e ∷ es) h = copied_step s e es (copied_is_listed s es) (is_entry_of s e) h

exactly_copied : (o : Option ScalarValue) → is_copied (exactly o) ≡ is_long o
exactly_copied None = refl
exactly_copied (Some v) = refl

among_at : (ss : List Stat) (i : ℕ) (s : Stat) → slice_get ss i ≡ Some s → is_among s ss ≡ true
among_at [] i s h = absurd (cc)
among_at (t ∷ ss) zero s h = let same : t ≡ s = cc in ap (λ b. b || is_among s ss) (ap (stat_eq s) same ∙ stat_eq-itself s)
among_at (t ∷ ss) (suc i) s h = or_second (stat_eq s t) (is_among s ss) (among_at ss i s h)

-- a wanted statistic whose value is a text or bytes is one of them
pub wanted_copies : (c : ColumnData) (wanted : List Stat) (i : ℕ) (s : Stat) → slice_get wanted i ≡ Some s → is_long (measured_value s c) ≡ true → measuring_copies wanted c ≡ true
wanted_copies c wanted i s at long =
    copied_is_listed s (measured wanted c)
    (ap is_copied (entry_value-measured c s wanted ∙ ap (λ b. cond b (told c s) Absent) (among_at wanted i s at)) ∙ exactly_copied (measured_value s c) ∙ long)

long_value : (t : DType) (v : ScalarValue) → is_value v t ≡ true → is_long (Some v) ≡ true → holds_long t ≡ true
long_value (dtype.Utf8 n) v h l = refl
long_value (dtype.Binary n) v h l = refl
long_value t (value.Bool b) h l = absurd (true≢false (sym l))
long_value t (value.Primitive p) h l = absurd (true≢false (sym l))
long_value t (value.Utf8 bs) h l = absurd (true≢false (sym h))
long_value t (value.Binary bs) h l = absurd (true≢false (sym h))

some_long : (t : DType) (o : Option ScalarValue) → ((v : ScalarValue) → o ≡ Some v → is_value v t ≡ true) → is_long o ≡ true → holds_long t ≡ true
some_long t None h l = absurd (true≢false (sym l))
some_long t (Some v) h l = long_value t v (h v refl) l

-- no number is a text or bytes
no_text_in : (o : Option DType) (z : ℤ) (bs : List ℕ) → number_in o z ≡ Some (value.Utf8 bs) → ⊥
no_text_in (Some (dtype.Primitive ptype.U64 n)) (pos k) bs h = let r = (in_u64 n k (value.Utf8 bs) h).1 in cc
no_text_in (Some (dtype.Primitive ptype.U64 n)) (negsuc k) bs h = cc
no_text_in (Some (dtype.Primitive ptype.I64 n)) z bs h = let r = (in_i64 n z (value.Utf8 bs) h).1 in cc
no_text_in o z bs h = cc

no_bytes_in : (o : Option DType) (z : ℤ) (bs : List ℕ) → number_in o z ≡ Some (value.Binary bs) → ⊥
no_bytes_in (Some (dtype.Primitive ptype.U64 n)) (pos k) bs h = let r = (in_u64 n k (value.Binary bs) h).1 in cc
no_bytes_in (Some (dtype.Primitive ptype.U64 n)) (negsuc k) bs h = cc
no_bytes_in (Some (dtype.Primitive ptype.I64 n)) z bs h = let r = (in_i64 n z (value.Binary bs) h).1 in cc
no_bytes_in o z bs h = cc

short_number : (o : Option DType) (z : ℤ) (r : Option ScalarValue) → number_in o z ≡ r → is_long r ≡ false
short_number o z None h = refl
short_number o z (Some (value.Bool b)) h = refl
short_number o z (Some (value.Primitive p)) h = refl
short_number o z (Some (value.Utf8 bs)) h = absurd (no_text_in o z bs h)
short_number o z (Some (value.Binary bs)) h = absurd (no_bytes_in o z bs h)

-- only of a column of texts or bytes the value of a statistic is one
pub long_is_of_long : (c : ColumnData) → IsColumn c → (s : Stat) → is_long (measured_value s c) ≡ true → holds_long c.dtype ≡ true
long_is_of_long c fits IsConstant l = absurd (true≢false (sym l))
long_is_of_long c fits IsSorted l = absurd (true≢false (sym l))
long_is_of_long c fits IsStrictSorted l = absurd (true≢false (sym l))
long_is_of_long c fits Max l = some_long c.dtype (max_value (present c.values)) (λ v h. value_in_column c.dtype c.values v fits (greatest_claims c.values v h).0) l
long_is_of_long c fits Min l = some_long c.dtype (min_value (present c.values)) (λ v h. value_in_column c.dtype c.values v fits (least_claims c.values v h).0) l
long_is_of_long c fits Sum l = absurd (true≢false (sym l ∙ short_number (stat_dtype Sum c.dtype) (sum_of (present c.values)) _ refl))
long_is_of_long c fits NullCount l = absurd (true≢false (sym l ∙ short_number (stat_dtype NullCount c.dtype) (pos (null_count c.values)) _ refl))
long_is_of_long c fits UncompressedSizeInBytes l = absurd (true≢false (sym l ∙ short_number (stat_dtype UncompressedSizeInBytes c.dtype) (pos c.size) _ refl))
long_is_of_long c fits NaNCount l = absurd (true≢false (sym l))
