-- What true statistics answer to placeholders are facts of the columns.
use Rattle.std.proofs.Common.{◌≡◌, ℕ, zero, suc, ◌<◌, ◌≤◌, Bool, true, false, List, [], ◌∷◌, length, Option, Some, None, refl, sym, ap, ◌∙◌, subst, arith}
use Rattle.std.specs.Prelude.{◌==◌, nat_lt, MatchBool, option_map, slice_get, if◌then◌else◌}
use Rattle.std.proofs.lemmas.Bool.{eqb-true}
use Rattle.std.proofs.lemmas.Bool.Decides.{nat_tests}
use Rattle.std.proofs.lemmas.List.FromFn.{fill_by_all}
use Rattle.std.proofs.lemmas.Option.{slice_get-get_or, slice_get-map}
use Rattle.vortex_base.specs.Data.Columns.{ColumnData, all_long, cell_value, row_count as rows_of, row_of, value_at}
use Rattle.vortex_base.specs.Data.Exact.{both_true}
use Rattle.vortex_expr.specs.Meanings.Meaning.{meaning}
use Rattle.vortex_expr.specs.Trees.Tree.{Tree, Place, column}
use Rattle.vortex_base.specs.Data.Types.{eq_ignore_nullability}
use Rattle.vortex_base.specs.Data.Values.{whole}
use Rattle.vortex_base.specs.declared.aggregate.AggregateFnRef.{AggregateFnRef}
use Rattle.vortex_base.specs.declared.aggregate.AggregateFnRef.TheVariants as aggregate
use Rattle.vortex_base.specs.declared.dtype.DType.{DType}
use Rattle.vortex_base.specs.declared.dtype.DType.TheVariants as dtype
use Rattle.vortex_base.specs.declared.scalar_value.ScalarValue.{ScalarValue}
use Rattle.vortex_base.specs.declared.scalar_value.ScalarValue.TheVariants as value
use Rattle.vortex_stats.proofs.Kit.{entry_value-fits}
use Rattle.vortex_stats.specs.Sets.Claims.{ClaimsCount, ClaimsMax, ClaimsMin, ClaimsSum, IsTrueOf, null_count, present, sum_of, count_value}
use Rattle.vortex_stats.specs.Sets.Entries.{entry_value, is_value_of, value_fits}
use Rattle.vortex_stats.specs.Precision.{present_value}
use Rattle.vortex_stats.specs.Stat.{sum_dtype}
use Rattle.vortex_stats.specs.declared.precision.Precision.{Precision}
use Rattle.vortex_stats.specs.declared.precision.Precision.TheVariants.{Exact, Inexact, Absent}
use Rattle.vortex_stats.specs.declared.stat.Stat.TheVariants.{Max, Min, Sum, NullCount, UncompressedSizeInBytes}
use Rattle.vortex_rewrite.specs.Facts.{IsFact, IsNumber, is_column_of, is_over, meanings, size_of}
use Rattle.vortex_prune.specs.Part.{AreTrueSets, PartData}
use Rattle.vortex_zone_map.specs.Zone.{Entries}
use Rattle.vortex_prune.proofs.Honesty.OwnValues.{column_told, own_values}
use Rattle.vortex_zone_map.specs.StatValues.{all_non_null_value, all_null_value, exact_value, null_count_value, stat_value}
use Rattle.vortex_base.proofs.Data.ChunkLemmas.{equal_numbers}

-- ---- of one statistic

module _ (xs : List (Option ScalarValue)) (size : Option ℕ) where
  max_fact : (p : Precision ScalarValue) → ClaimsMax p xs → IsFact aggregate.Max (present_value p) xs size
  max_fact (Exact v) h = h.1
  max_fact (Inexact v) h = h
  max_fact Absent h = tt

  min_fact : (p : Precision ScalarValue) → ClaimsMin p xs → IsFact aggregate.Min (present_value p) xs size
  min_fact (Exact v) h = h.1
  min_fact (Inexact v) h = h
  min_fact Absent h = tt

  number_alone : (t : DType) (v : ScalarValue) → is_value_of (sum_dtype t) v ≡ true → whole v ≡ sum_of (present xs) → IsNumber v (sum_of (present xs))
  number_alone t (value.Primitive p) h e = e
  number_alone dtype.Null v h e = cc
  number_alone (dtype.Utf8 n) v h e = cc
  number_alone (dtype.Binary n) v h e = cc
  number_alone (dtype.MinMaxState el n) v h e = cc
  number_alone (dtype.Bool n) v h e = cc
  number_alone (dtype.Primitive p n) v h e = cc

  sum_fact : (t : DType) (p : Precision ScalarValue) → value_fits Sum t p ≡ true → ClaimsSum p (sum_of (present xs)) → IsFact aggregate.Sum (exact_value p) xs size
  sum_fact t (Exact v) f h = number_alone t v f h
  sum_fact t (Inexact v) f h = tt
  sum_fact t Absent f h = tt

  few_nulls : (m : ℕ) (b : Bool) → (m == 0) ≡ b → null_count xs ≤ m → IsFact aggregate.NullCount (if b then Some (count_value 0) else None) xs size
  few_nulls m true e l = let z : m ≡ 0 = eqb-true m 0 e in let k : 0 ≡ null_count xs = omega arith in ap count_value k
  few_nulls m false e l = tt

  null_count_fact : (p : Precision ScalarValue) → ClaimsCount p (null_count xs) → IsFact aggregate.NullCount (null_count_value p) xs size
  null_count_fact (Exact v) h = h
  null_count_fact (Inexact v) h = subst (λ w. IsFact aggregate.NullCount (null_count_value (Inexact w)) xs size) (sym h.1) (few_nulls h.0 (h.0 == 0) refl h.2)
  null_count_fact Absent h = tt

  some_there : (m n : ℕ) (b : Bool) → nat_lt m n ≡ b → null_count xs ≤ m → n ≡ length xs → IsFact aggregate.AllNull (if b then Some (value.Bool false) else None) xs size
  some_there m n true e l long = ap value.Bool (fewer (null_count xs) m n (length xs) e l long)
    where
      fewer : (c m n k : ℕ) → nat_lt m n ≡ true → c ≤ m → n ≡ k → false ≡ (c == k)
      fewer c m n k e l long = grind (arith, nat_tests)
  some_there m n false e l long = tt

  all_null_fact : (n : ℕ) (p : Precision ScalarValue) → n ≡ length xs → ClaimsCount p (null_count xs) → IsFact aggregate.AllNull (all_null_value p n) xs size
  all_null_fact n (Exact v) long h = subst (λ w. IsFact aggregate.AllNull (all_null_value (Exact w) n) xs size) (sym h) (ap (λ m. value.Bool (null_count xs == m)) long)
  all_null_fact n (Inexact v) long h = subst (λ w. IsFact aggregate.AllNull (all_null_value (Inexact w) n) xs size) (sym h.1) (some_there h.0 n (nat_lt h.0 n) refl h.2 long)
  all_null_fact n Absent long h = tt

  none_there : (m : ℕ) (b : Bool) → (m == 0) ≡ b → null_count xs ≤ m → IsFact aggregate.AllNonNull (if b then Some (value.Bool true) else None) xs size
  none_there m true e l = ap value.Bool (no_more (null_count xs) m e l)
    where
      no_more : (c m : ℕ) → (m == 0) ≡ true → c ≤ m → true ≡ (c == 0)
      no_more c m e l = grind (arith, nat_tests)
  none_there m false e l = tt

  all_non_null_fact : (p : Precision ScalarValue) → ClaimsCount p (null_count xs) → IsFact aggregate.AllNonNull (all_non_null_value p) xs size
  all_non_null_fact (Exact v) h = subst (λ w. IsFact aggregate.AllNonNull (all_non_null_value (Exact w)) xs size) (sym h) refl
  all_non_null_fact (Inexact v) h = subst (λ w. IsFact aggregate.AllNonNull (all_non_null_value (Inexact w)) xs size) (sym h.1) (none_there h.0 (h.0 == 0) refl h.2)
  all_non_null_fact Absent h = tt

size_fact : (xs : List (Option ScalarValue)) (size : ℕ) (p : Precision ScalarValue) → ClaimsCount p size → IsFact aggregate.UncompressedSizeInBytes (exact_value p) xs (Some size)
size_fact xs size (Exact v) h = h
size_fact xs size (Inexact v) h = tt
size_fact xs size Absent h = tt

-- what a true set answers is a fact of its column
pub stat_fact : (f : AggregateFnRef) (es : Entries) (d : ColumnData) (n : ℕ) → IsTrueOf es d → n ≡ length d.values → IsFact f (stat_value f es n) d.values (Some d.size)
stat_fact aggregate.Max es d n h long = max_fact d.values (Some d.size) (entry_value Max es) (h.claims Max)
stat_fact aggregate.Min es d n h long = min_fact d.values (Some d.size) (entry_value Min es) (h.claims Min)
stat_fact aggregate.Sum es d n h long = sum_fact d.values (Some d.size) d.dtype (entry_value Sum es) (entry_value-fits Sum d.dtype es h.fits) (h.claims Sum)
stat_fact aggregate.NullCount es d n h long = null_count_fact d.values (Some d.size) (entry_value NullCount es) (h.claims NullCount)
stat_fact aggregate.UncompressedSizeInBytes es d n h long = size_fact d.values d.size (entry_value UncompressedSizeInBytes es) (h.claims UncompressedSizeInBytes)
stat_fact aggregate.AllNull es d n h long = all_null_fact d.values (Some d.size) n (entry_value NullCount es) long (h.claims NullCount)
stat_fact aggregate.AllNonNull es d n h long = all_non_null_fact d.values (Some d.size) (entry_value NullCount es) (h.claims NullCount)
stat_fact aggregate.MinMax es d n h long = tt
stat_fact aggregate.NanCount es d n h long = tt

-- ---- of a column of a chunk

pub column_long : (n : ℕ) (cs : List ColumnData) (j : ℕ) (d : ColumnData) → all_long n cs ≡ true → slice_get cs j ≡ Some d → length d.values ≡ n
column_long n [] j d h there = cc
column_long n (c ∷ cs) zero d h there = let same : c ≡ d = cc in ap (λ (x : ColumnData). length x.values) (sym same) ∙ equal_numbers (length c.values) n (both_true _ _ h).0
column_long n (c ∷ cs) (suc j) d h there = column_long n cs j d (both_true _ _ h).1 there

-- what a column means on the rows is its values
pub values_meant : (c : Place) (cs : List ColumnData) (d : ColumnData) → all_long (rows_of cs) cs ≡ true → slice_get cs c.index ≡ Some d → d.values ≡ meanings (column c) cs
values_meant c cs d long there =
    fill_by_all (λ i. meaning (column c) (row_of i cs) (rows_of cs)) d.values (rows_of cs) None (column_long (rows_of cs) cs c.index d long there)
    (λ i here. sym (
    ap cell_value (slice_get-map (λ x. record { dtype = x.dtype; value = value_at (slice_get x.values i) }) cs c.index)
    ∙ ap (λ o. cell_value (option_map (λ x. record { dtype = x.dtype; value = value_at (slice_get x.values i) }) o)) there
    ∙ ap value_at (slice_get-get_or d.values i None (subst (λ m. i < m) (sym (column_long (rows_of cs) cs c.index d long there)) here))
    ))

pub true_set : (cs : List ColumnData) (ss : List Entries) (j : ℕ) (d : ColumnData) (es : Entries) → AreTrueSets cs ss → slice_get cs j ≡ Some d → slice_get ss j ≡ Some es → IsTrueOf es d
true_set [] ss j d es h there set = cc
true_set (c ∷ cs) [] j d es h there set = absurd h
true_set (c ∷ cs) (s ∷ ss) zero d es h there set =
    let same : c ≡ d = cc in
    let own : s ≡ es = cc in
    subst (λ x. IsTrueOf es x) same (subst (λ x. IsTrueOf x c) own h.0)
true_set (c ∷ cs) (s ∷ ss) (suc j) d es h there set = true_set cs ss j d es h.1 there set

-- null is a fact of everything
abbrev null : Option ScalarValue
null = None

pub no_fact : (b : Bool) (f : AggregateFnRef) (xs : List (Option ScalarValue)) (size : Option ℕ) → MatchBool b (IsFact f null xs size) (null ≡ None)
no_fact true f xs size = tt
no_fact false f xs size = refl

module _ (p : PartData) (long : all_long (rows_of p.chunk.columns) p.chunk.columns ≡ true) (sets : AreTrueSets p.chunk.columns p.stats) (f : AggregateFnRef) where
  suited : (c : Place) (d : ColumnData) (es : Entries) (b : Bool) → slice_get p.chunk.columns c.index ≡ Some d → slice_get p.stats c.index ≡ Some es
      → MatchBool b (IsFact f (if b then stat_value f es (rows_of p.chunk.columns) else None) (meanings (column c) p.chunk.columns) (Some d.size)) ((if b then stat_value f es (rows_of p.chunk.columns) else None) ≡ None)
  suited c d es true there set =
      subst (λ xs. IsFact f (stat_value f es (rows_of p.chunk.columns)) xs (Some d.size)) (values_meant c p.chunk.columns d long there)
      (stat_fact f es d (rows_of p.chunk.columns) (true_set p.chunk.columns p.stats c.index d es sets there set) (sym (column_long (rows_of p.chunk.columns) p.chunk.columns c.index d long there)))
  suited c d es false there set = refl

  column_fact : (c : Place) (o : Option ColumnData) (q : Option Entries) → slice_get p.chunk.columns c.index ≡ o → slice_get p.stats c.index ≡ q
      → MatchBool (is_column_of c.dtype o) (IsFact f (column_told f c.dtype o q (rows_of p.chunk.columns)) (meanings (column c) p.chunk.columns) (option_map (λ (d : ColumnData). d.size) o)) (column_told f c.dtype o q (rows_of p.chunk.columns) ≡ None)
  column_fact c None q there set = refl
  column_fact c (Some d) None there set = no_fact (eq_ignore_nullability d.dtype c.dtype) f (meanings (column c) p.chunk.columns) (Some d.size)
  column_fact c (Some d) (Some es) there set = suited c d es (eq_ignore_nullability d.dtype c.dtype) there set

  pub part_fact : (x : Tree Place) → MatchBool (is_over x p.chunk.columns) (IsFact f (own_values p f x) (meanings x p.chunk.columns) (size_of x p.chunk.columns)) (own_values p f x ≡ None)
  part_fact (column c) = column_fact c (slice_get p.chunk.columns c.index) (slice_get p.stats c.index) refl refl
  part_fact x = no_fact (is_over x p.chunk.columns) f (meanings x p.chunk.columns) (size_of x p.chunk.columns)
