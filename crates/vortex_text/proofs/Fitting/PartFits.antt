-- What lines do to parts keeps them parts of their scope.
use Rattle.std.proofs.Common.{◌≡◌, ◌+◌, ◌^◌, ◌==◌, ℕ, zero, suc, true, false, nat_lt, List, [], ◌∷◌, ◌++◌, Option, None, Some, All, map, option_and_then, length, slice_get, set, take, drop, refl, ap, sym, ◌∙◌, subst, arith}
use Rattle.std.proofs.lemmas.Bool.Decides.{nat_tests}
use Rattle.std.proofs.lemmas.List.Elements.{All-append, All-cons, All-drop, All-take}
use Rattle.std.proofs.lemmas.Option.{get_or_from_slice_get, slice_get_within}
use Rattle.std.specs.List.{AllZip, list_all, list_any}
use Rattle.vortex_base.specs.Data.Columns.{ColumnData, all_appended, all_long, has_types, is_column, row_count, sizes_fit}
use Rattle.vortex_base.specs.Data.Exact.{both_hold, both_true}
use Rattle.vortex_base.specs.Data.Scopes.{Named, has_duplicate, is_empty, is_scope, is_state_column}
use Rattle.vortex_base.specs.Data.Types.{dtype_eq_is_exact}
use Rattle.vortex_base.specs.declared.scalar_value.ScalarValue.{ScalarValue}
use Rattle.vortex_prune.proofs.Scanning.JoinLemmas.{joined_is_part}
use Rattle.vortex_prune.specs.Part.{PartData, joined, sets_fit}
use Rattle.vortex_zone_map.specs.Zone.{Entries}
use Rattle.vortex_stats.proofs.Sets.Fitting.{entries_fit_with_entry}
use Rattle.vortex_stats.specs.Sets.Entries.{entries_fit, value_fits, with_entry}
use Rattle.vortex_stats.specs.declared.precision.Precision.{Precision}
use Rattle.vortex_stats.specs.declared.stat.Stat.{Stat}
use Rattle.vortex_syntax.specs.Words.{Token}
use Rattle.vortex_syntax.proofs.Fitting.ExpressionFits.{one_made, step_of}
use Rattle.vortex_text.proofs.Fitting.RowFits.{Grown, grown_alike, grown_count, grown_fit, grown_sets, grown_types, grown_unsized, row_grows}
use Rattle.vortex_text.specs.Columns.{with_values}
use Rattle.vortex_zone_map.specs.Logs.{set_at}
use Rattle.vortex_text.specs.Fitting.{IsPartOf, is_unsized}
use Rattle.vortex_text.specs.Rows.{empty_column, empty_part, joined_at, no_entries, with_row, with_statistic}

-- ---- the parts of the test of a part

-- what a part's test says of its columns
pub record Shape (scope : List Named) (cs : List ColumnData) (ss : List Entries) : Type 0 where
  pub scope_is : is_scope scope ≡ true
  pub count : (length scope == length cs) ≡ true
  pub long : all_long (row_count cs) cs ≡ true
  pub types : has_types scope cs ≡ true
  pub columns : list_all is_column cs ≡ true
  pub sets : sets_fit cs ss ≡ true
  pub sizes : is_unsized cs ≡ true

-- the part that these make
abbrev pub part_of : List Named → List ColumnData → List Entries → PartData
part_of scope cs ss = record { chunk = record { scope = scope; columns = cs }; stats = ss }

pub shape_of : (scope : List Named) (part : PartData) → IsPartOf scope part → Shape part.chunk.scope part.chunk.columns part.stats
shape_of scope part h =
    let a = both_true _ _ h.is_part.0 in
    let b = both_true _ _ a.1 in
    let shape = both_true _ _ b.0 in
    let c = both_true _ _ b.1 in
    record { scope_is = a.0; count = shape.0; long = shape.1; types = c.0; columns = c.1; sets = h.is_part.1; sizes = h.unsized }

pub of_shape : (scope own : List Named) (cs : List ColumnData) (ss : List Entries) → own ≡ scope → Shape own cs ss → IsPartOf scope (part_of own cs ss)
of_shape scope own cs ss same p = record {
  same_scope = same;
  is_part = (both_hold _ _ p.scope_is (both_hold _ _ (both_hold _ _ p.count p.long) (both_hold _ _ p.types p.columns)), p.sets);
  unsized = p.sizes;
}

-- ---- a part begins

pub scope_made : (scope : List Named) → has_duplicate scope ≡ false → list_any is_state_column scope ≡ false → is_empty scope ≡ false → is_scope scope ≡ true
scope_made scope distinct storable some = rw (some, distinct, storable) refl

empty_count : (scope : List Named) → length (map empty_column scope) ≡ length scope
empty_count [] = refl
empty_count (s ∷ ss) = ap suc (empty_count ss)

pub empty_long : (scope : List Named) → all_long 0 (map empty_column scope) ≡ true
empty_long [] = refl
empty_long (s ∷ ss) = empty_long ss

pub empty_rows : (scope : List Named) → row_count (map empty_column scope) ≡ 0
empty_rows [] = refl
empty_rows (s ∷ ss) = refl

empty_types : (scope : List Named) → has_types scope (map empty_column scope) ≡ true
empty_types [] = refl
empty_types (s ∷ ss) = both_hold _ _ ((dtype_eq_is_exact s.1 s.1).1 refl) (empty_types ss)

pub empty_fit : (scope : List Named) → list_all is_column (map empty_column scope) ≡ true
empty_fit [] = refl
empty_fit (s ∷ ss) = empty_fit ss

empty_sets : (scope : List Named) → sets_fit (map empty_column scope) (map no_entries scope) ≡ true
empty_sets [] = refl
empty_sets (s ∷ ss) = empty_sets ss

empty_unsized : (scope : List Named) → is_unsized (map empty_column scope) ≡ true
empty_unsized [] = refl
empty_unsized (s ∷ ss) = empty_unsized ss

tests_equal : (m n : ℕ) → m ≡ n → (m == n) ≡ true
tests_equal m n h = grind (arith, nat_tests)

equal_numbers : (m n : ℕ) → (m == n) ≡ true → m ≡ n
equal_numbers m n h = grind (arith, nat_tests)

pub empty_part_of : (scope : List Named) → is_scope scope ≡ true → IsPartOf scope (empty_part scope)
empty_part_of scope is = of_shape scope scope (map empty_column scope) (map no_entries scope) refl (record {
  scope_is = is;
  count = tests_equal (length scope) (length (map empty_column scope)) (sym (empty_count scope));
  long = subst (λ (n : ℕ). all_long n (map empty_column scope) ≡ true) (sym (empty_rows scope)) (empty_long scope);
  types = empty_types scope;
  columns = empty_fit scope;
  sets = empty_sets scope;
  sizes = empty_unsized scope;
})

pub empty_is_part : (scope : List Named) → has_duplicate scope ≡ false → list_any is_state_column scope ≡ false → is_empty scope ≡ false → IsPartOf scope (empty_part scope)
empty_is_part scope distinct storable some = empty_part_of scope (scope_made scope distinct storable some)

-- ---- a part takes a row

row_shape : (scope : List Named) (cs ds : List ColumnData) (ss : List Entries) → AllZip Grown cs ds → Shape scope cs ss → Shape scope ds ss
row_shape scope cs ds ss grown p = record {
  scope_is = p.scope_is;
  count = tests_equal (length scope) (length ds) (equal_numbers (length scope) (length cs) p.count ∙ sym (grown_count cs ds grown));
  long = grown_alike cs ds grown p.long;
  types = grown_types scope cs ds grown p.types;
  columns = grown_fit cs ds grown p.columns;
  sets = grown_sets cs ds ss grown p.sets;
  sizes = grown_unsized cs ds grown p.sizes;
}

pub row_is_part : (scope : List Named) (part longer : PartData) (ws : List Token) → IsPartOf scope part → with_row part ws ≡ Some longer → IsPartOf scope longer
row_is_part scope part longer ws h read =
    let a = step_of (with_values part.chunk.columns ws) (λ (cs : List ColumnData). Some (part_of part.chunk.scope cs part.stats)) longer read in
    let P : PartData → Type 0 = IsPartOf scope in
    subst P (one_made (part_of part.chunk.scope a.at part.stats) longer a.then)
    (of_shape scope part.chunk.scope a.at part.stats h.same_scope
    (row_shape part.chunk.scope part.chunk.columns a.at part.stats (row_grows part.chunk.columns a.at ws a.made) (shape_of scope part h)))

-- ---- a part takes a statistic

set_fits : (cs : List ColumnData) (ss : List Entries) (i : ℕ) (s : Stat) (p : Precision ScalarValue) (es : Entries)
    → ((c : ColumnData) → slice_get cs i ≡ Some c → value_fits s c.dtype p ≡ true) → slice_get ss i ≡ Some es → sets_fit cs ss ≡ true
    → sets_fit cs (set ss i (with_entry s p es)) ≡ true
set_fits [] [] i s p es fits there h = refl
set_fits [] (x ∷ ss) i s p es fits there h = cc
set_fits (c ∷ cs) [] i s p es fits there h = cc
set_fits (c ∷ cs) (x ∷ ss) zero s p es fits there h =
    let both = both_true _ _ h in
    let same : x ≡ es = cc in
    both_hold _ _ (entries_fit_with_entry s p c.dtype es (fits c refl) (subst (λ (xs : Entries). entries_fit xs c.dtype ≡ true) same both.0)) both.1
set_fits (c ∷ cs) (x ∷ ss) (suc i) s p es fits there h =
    let both = both_true _ _ h in
    both_hold _ _ both.0 (set_fits cs ss i s p es fits there both.1)

set_at_fits : (cs : List ColumnData) (ss : List Entries) (i : ℕ) (s : Stat) (p : Precision ScalarValue) (o : Option Entries)
    → ((c : ColumnData) → slice_get cs i ≡ Some c → value_fits s c.dtype p ≡ true) → slice_get ss i ≡ o → sets_fit cs ss ≡ true
    → sets_fit cs (set_at i s p ss o) ≡ true
set_at_fits cs ss i s p None fits there h = h
set_at_fits cs ss i s p (Some es) fits there h = set_fits cs ss i s p es fits there h

-- the column at a place has the type that the scope has there
pub type_at : (scope : List Named) (cs : List ColumnData) (i : ℕ) (name : Named) (c : ColumnData) → has_types scope cs ≡ true → slice_get scope i ≡ Some name → slice_get cs i ≡ Some c → name.1 ≡ c.dtype
type_at [] cs i name c h named there = cc
type_at (s ∷ ss) [] i name c h named there = cc
type_at (s ∷ ss) (d ∷ ds) zero name c h named there =
    let same : s ≡ name = cc in
    let column : d ≡ c = cc in
    let types = (dtype_eq_is_exact s.1 d.dtype).0 ((both_true _ _ h).0) in
    ap (λ (x : Named). x.1) (sym same) ∙ types ∙ ap (λ (x : ColumnData). x.dtype) column
type_at (s ∷ ss) (d ∷ ds) (suc i) name c h named there = type_at ss ds i name c ((both_true _ _ h).1) named there

pub statistic_is_part : (scope : List Named) (part : PartData) (i : ℕ) (s : Stat) (p : Precision ScalarValue) → IsPartOf scope part
    → ((c : ColumnData) → slice_get part.chunk.columns i ≡ Some c → value_fits s c.dtype p ≡ true) → IsPartOf scope (with_statistic i s p part)
statistic_is_part scope part i s p h fits =
    let old = shape_of scope part h in
    let sets = set_at_fits part.chunk.columns part.stats i s p (slice_get part.stats i) fits refl old.sets in
    of_shape scope part.chunk.scope part.chunk.columns (set_at i s p part.stats (slice_get part.stats i)) h.same_scope (record {
      scope_is = old.scope_is;
      count = old.count;
      long = old.long;
      types = old.types;
      columns = old.columns;
      sets = sets;
      sizes = old.sizes;
    })

-- ---- two neighbours become one

sum_small : (m n : ℕ) → (m == 0) ≡ true → (n == 0) ≡ true → nat_lt (m + n) (2 ^ 64) ≡ true
sum_small m n p q = grind (arith, nat_tests)

sum_zero : (m n : ℕ) → (m == 0) ≡ true → (n == 0) ≡ true → (m + n == 0) ≡ true
sum_zero m n p q = grind (arith, nat_tests)

pub unsized_fit : (cs ds : List ColumnData) → is_unsized cs ≡ true → is_unsized ds ≡ true → sizes_fit cs ds ≡ true
unsized_fit [] [] p q = refl
unsized_fit [] (d ∷ ds) p q = refl
unsized_fit (c ∷ cs) [] p q = refl
unsized_fit (c ∷ cs) (d ∷ ds) p q =
    let a = both_true _ _ p in
    let b = both_true _ _ q in
    both_hold _ _ (sum_small c.size d.size a.0 b.0) (unsized_fit cs ds a.1 b.1)

appended_unsized : (cs ds : List ColumnData) → is_unsized cs ≡ true → is_unsized ds ≡ true → is_unsized (all_appended cs ds) ≡ true
appended_unsized [] [] p q = refl
appended_unsized [] (d ∷ ds) p q = refl
appended_unsized (c ∷ cs) [] p q = p
appended_unsized (c ∷ cs) (d ∷ ds) p q =
    let a = both_true _ _ p in
    let b = both_true _ _ q in
    both_hold _ _ (sum_zero c.size d.size a.0 b.0) (appended_unsized cs ds a.1 b.1)

pub joined_is_part_of : (scope : List Named) (p q : PartData) → IsPartOf scope p → IsPartOf scope q → IsPartOf scope (joined p q)
joined_is_part_of scope p q h g = record {
  same_scope = h.same_scope;
  is_part = joined_is_part p q h.is_part g.is_part (h.same_scope ∙ sym g.same_scope) (unsized_fit p.chunk.columns q.chunk.columns h.unsized g.unsized);
  unsized = appended_unsized p.chunk.columns q.chunk.columns h.unsized g.unsized;
}

pub one_of : {X : Type 0} (P : X → Type 0) (xs : List X) (i : ℕ) (x : X) → All P xs → slice_get xs i ≡ Some x → P x
one_of P xs i x all there = subst P (get_or_from_slice_get xs i x x there) (all i x (slice_get_within xs i x there))

pub joined_at_are_parts : (scope : List Named) (i : ℕ) (parts new : List PartData) → All (IsPartOf scope) parts → joined_at i parts ≡ Some new → All (IsPartOf scope) new
joined_at_are_parts scope i parts new all read =
    let last = λ (l r : PartData). Some (take i parts ++ joined l r ∷ drop (i + 2) parts) in
    let a = step_of (slice_get parts i) (λ (l : PartData). option_and_then (last l) (slice_get parts (i + 1))) new read in
    let b = step_of (slice_get parts (i + 1)) (last a.at) new a.then in
    let same = one_made (take i parts ++ joined a.at b.at ∷ drop (i + 2) parts) new b.then in
    let one = joined_is_part_of scope a.at b.at (one_of (IsPartOf scope) parts i a.at all a.made) (one_of (IsPartOf scope) parts (i + 1) b.at all b.made) in
    let P : List PartData → Type 0 = All (IsPartOf scope) in
    subst P same (All-append (IsPartOf scope) (take i parts) (joined a.at b.at ∷ drop (i + 2) parts) (All-take (IsPartOf scope) i parts all)
    (All-cons (IsPartOf scope) (joined a.at b.at) (drop (i + 2) parts) one (All-drop (IsPartOf scope) (i + 2) parts all)))
