-- A part with columns behind its own that tell of leaves, of which its statistics know nothing.
use Rattle.std.proofs.Common.{◌≡◌, ◌<◌, ℕ, zero, suc, Bool, true, false, List, [], ◌∷◌, ◌++◌, length, refl, sym, ◌∙◌, ap, subst, arith, if◌then◌else◌}
use Rattle.std.proofs.lemmas.Bool.Decides.{nat_tests}
use Rattle.std.specs.Prelude.{Option, Some, None, IsTrue, map, replicate, slice_get, ◌&&◌, ◌==◌}
use Rattle.std.specs.List.{list_all}
use lib.Pointwise.{pointwise}
use Rattle.vortex_base.specs.declared.aggregate.AggregateFnRef.{AggregateFnRef}
use Rattle.vortex_base.specs.declared.aggregate.AggregateFnRef.TheVariants as aggregate
use Rattle.vortex_base.specs.declared.dtype.DType.{DType}
use Rattle.vortex_base.specs.declared.scalar_value.ScalarValue.{ScalarValue}
use Rattle.vortex_base.specs.Data.Exact.{both_true, both_hold}
use Rattle.vortex_base.specs.Data.Types.{dtype_eq, dtype_eq_is_exact, eq_ignore_nullability}
use Rattle.vortex_base.specs.Data.Scalars.{is_optional_value}
use Rattle.vortex_base.specs.Data.Scopes.{Named, IsScope, is_scope}
use Rattle.vortex_base.specs.Data.Columns.{ColumnData, IsChunk, row_of, row_count, all_fit, all_long, has_shape, has_types, is_column}
use Rattle.vortex_expr.specs.Meanings.Fitting.{fits_scope}
use Rattle.vortex_expr.specs.Meanings.Meaning.{truth_value, satisfies}
use Rattle.vortex_expr.specs.Meanings.Typing.{type_of}
use Rattle.vortex_expr.specs.Trees.Tree.{Tree, Place, column}
use Rattle.vortex_predicates.specs.Pruning.{IsRight, Pruning}
use Rattle.vortex_prune.proofs.Honesty.ZoneLemmas.{part_is_zone}
use Rattle.vortex_prune.proofs.Scanning.Lossless.{is_over_chunk}
use Rattle.vortex_prune.proofs.Scanning.WholeScan.{predicate_typed}
use Rattle.vortex_prune.proofs.ZoneMaps.ZoneRows.{told_is_honest}
use Rattle.vortex_prune.specs.Binding.PartAnswers.{column_value, told_values}
use Rattle.vortex_zone_map.specs.StatValues.{stat_value}
use Rattle.vortex_prune.specs.Part.{AreTrueSets, IsPart, IsPartOf, IsTruePart, PartData, sets_fit, zone_of}
use Rattle.vortex_zone_map.specs.Zone.{Entries, ZoneData, each_fits, fits_zone}
use Rattle.vortex_prune.specs.Scanning.Selection.{proves_of}
use Rattle.vortex_rewrite.specs.Facts.{IsHonest}
use Rattle.vortex_rewrite.specs.Rewriting.Lawful.{IsOver}
use Rattle.vortex_rewrite.specs.Rewriting.Proof.{Assignment}
use Rattle.vortex_stats.specs.declared.stat.Stat.{Stat}
use Rattle.vortex_stats.specs.declared.stat.Stat.TheVariants as stat
use Rattle.vortex_stats.specs.Sets.Claims.{IsTrueOf, Claims}
use Rattle.vortex_stats.specs.Sets.Entries.{entries_fit, entry_value}
use Rattle.vortex_sql.specs.declared.syntax.tree.Leaf.{Leaf}
use Rattle.vortex_sql.specs.declared.syntax.tree.Condition.{Condition}
use Rattle.vortex_sql.specs.Lowering.{Says, opaques}
use Rattle.vortex_sql.specs.Pruning.{Confirmed, Refuted, ConfirmsCondition, RefutesCondition, told_column, with_columns}
use Rattle.vortex_sql.specs.Readings.{bool_or_null}
use Rattle.vortex_sql.specs.Schemas.{SchemaData}
use Rattle.vortex_predicates.specs.Conditions.Conditions.{AreColumnsOf, ProofsTell, widened_zone}

-- ---- lists side by side, and one behind the other

pointwise-append : {A B : Type 0} (R : A → B → Bool) (xs as' : List A) (ys bs : List B) → pointwise R xs ys ≡ true → pointwise R as' bs ≡ true → pointwise R (xs ++ as') (ys ++ bs) ≡ true
pointwise-append R [] as' [] bs h k = k
pointwise-append R [] as' (y ∷ ys) bs h k = cc
pointwise-append R (x ∷ xs) as' [] bs h k = cc
pointwise-append R (x ∷ xs) as' (y ∷ ys) bs h k = let b = both_true (R x y) (pointwise R xs ys) h in both_hold (R x y) _ b.0 (pointwise-append R xs as' ys bs b.1 k)

pointwise-length : {A B : Type 0} (R : A → B → Bool) (xs : List A) (ys : List B) → pointwise R xs ys ≡ true → length xs ≡ length ys
pointwise-length R [] [] h = refl
pointwise-length R [] (y ∷ ys) h = cc
pointwise-length R (x ∷ xs) [] h = cc
pointwise-length R (x ∷ xs) (y ∷ ys) h = ap suc (pointwise-length R xs ys (both_true (R x y) (pointwise R xs ys) h).1)

all-append : {A : Type 0} (p : A → Bool) (xs ys : List A) → list_all p xs ≡ true → list_all p ys ≡ true → list_all p (xs ++ ys) ≡ true
all-append p [] ys h k = k
all-append p (x ∷ xs) ys h k = let b = both_true (p x) (list_all p xs) h in both_hold (p x) _ b.0 (all-append p xs ys b.1 k)

types-append : (cs ds : List ColumnData) → map (λ c. c.dtype) (cs ++ ds) ≡ map (λ c. c.dtype) cs ++ map (λ c. c.dtype) ds
types-append [] ds = refl
types-append (c ∷ cs) ds = ap (λ rest. c.dtype ∷ rest) (types-append cs ds)

equal_itself : (m n : ℕ) → m ≡ n → (m == n) ≡ true
equal_itself m n e = grind (arith, nat_tests)

-- ---- the columns that tell of leaves

abbrev told_columns : ℕ → (Leaf → Option Bool) → List Leaf → List ColumnData
told_columns n f ls = map (λ l. told_column n (f l)) ls

truth_fits : (b : Option Bool) → is_optional_value (truth_value b) bool_or_null ≡ true
truth_fits None = refl
truth_fits (Some b) = refl

replicated_fit : (n : ℕ) (b : Option Bool) → all_fit bool_or_null (replicate n (truth_value b)) ≡ true
replicated_fit zero b = refl
replicated_fit (suc n) b = both_hold (is_optional_value (truth_value b) bool_or_null) _ (truth_fits b) (replicated_fit n b)

replicated_long : {A : Type 0} (n : ℕ) (v : A) → length (replicate n v) ≡ n
replicated_long zero v = refl
replicated_long (suc n) v = ap suc (replicated_long n v)

told_long : (n : ℕ) (f : Leaf → Option Bool) (ls : List Leaf) → all_long n (told_columns n f ls) ≡ true
told_long n f [] = refl
told_long n f (l ∷ ls) = both_hold (length (replicate n (truth_value (f l))) == n) _ (equal_itself _ _ (replicated_long n (truth_value (f l)))) (told_long n f ls)

told_fit : (n : ℕ) (f : Leaf → Option Bool) (ls : List Leaf) → list_all is_column (told_columns n f ls) ≡ true
told_fit n f [] = refl
told_fit n f (l ∷ ls) = both_hold (all_fit bool_or_null (replicate n (truth_value (f l)))) _ (replicated_fit n (f l)) (told_fit n f ls)

told_types : (n : ℕ) (f : Leaf → Option Bool) (more : List Named) (ls : List Leaf) → AreColumnsOf more ls → has_types more (told_columns n f ls) ≡ true
told_types n f [] [] h = refl
told_types n f [] (l ∷ ls) h = cc
told_types n f (c ∷ more) [] h = cc
told_types n f (c ∷ more) (l ∷ ls) h =
    let here : c.1 ≡ bool_or_null = cc in
    let rest : AreColumnsOf more ls = cc in
    both_hold (dtype_eq c.1 bool_or_null) _ ((dtype_eq_is_exact c.1 bool_or_null).1 here) (told_types n f more ls rest)

-- ---- their statistics, which know nothing

nothing_fits : (n : ℕ) (f : Leaf → Option Bool) (more : List Named) (ls : List Leaf) → AreColumnsOf more ls → each_fits (map (λ c. c.dtype) (told_columns n f ls)) (replicate (length more) []) ≡ true
nothing_fits n f [] [] h = refl
nothing_fits n f [] (l ∷ ls) h = cc
nothing_fits n f (c ∷ more) [] h = cc
nothing_fits n f (c ∷ more) (l ∷ ls) h =
    let rest : AreColumnsOf more ls = cc in
    nothing_fits n f more ls rest

claims_nothing : (c : ColumnData) (s : Stat) → Claims s (entry_value s []) c
claims_nothing c stat.IsConstant = tt
claims_nothing c stat.IsSorted = tt
claims_nothing c stat.IsStrictSorted = tt
claims_nothing c stat.Max = tt
claims_nothing c stat.Min = tt
claims_nothing c stat.Sum = tt
claims_nothing c stat.NullCount = tt
claims_nothing c stat.UncompressedSizeInBytes = tt
claims_nothing c stat.NaNCount = tt

nothing_true : (c : ColumnData) → IsTrueOf [] c
nothing_true c = record { fits = refl; claims = claims_nothing c }

true_behind : (n : ℕ) (f : Leaf → Option Bool) (more : List Named) (ls : List Leaf) → AreColumnsOf more ls → AreTrueSets (told_columns n f ls) (replicate (length more) [])
true_behind n f [] [] h = tt
true_behind n f [] (l ∷ ls) h = cc
true_behind n f (c ∷ more) [] h = cc
true_behind n f (c ∷ more) (l ∷ ls) h =
    let rest : AreColumnsOf more ls = cc in
    (nothing_true (told_column n (f l)), true_behind n f more ls rest)

true-append : (cs ds : List ColumnData) (ss ts : List Entries) → AreTrueSets cs ss → AreTrueSets ds ts → AreTrueSets (cs ++ ds) (ss ++ ts)
true-append [] ds [] ts h k = k
true-append [] ds (s ∷ ss) ts h k = absurd h
true-append (c ∷ cs) ds [] ts h k = absurd h
true-append (c ∷ cs) ds (s ∷ ss) ts h k = (h.0, true-append cs ds ss ts h.1 k)

-- ---- so they answer no placeholder

no_value : (f : AggregateFnRef) (n : ℕ) → stat_value f [] n ≡ None
no_value aggregate.Max n = refl
no_value aggregate.Min n = refl
no_value aggregate.Sum n = refl
no_value aggregate.NullCount n = refl
no_value aggregate.UncompressedSizeInBytes n = refl
no_value aggregate.AllNull n = refl
no_value aggregate.AllNonNull n = refl
no_value aggregate.MinMax n = refl
no_value aggregate.NanCount n = refl

if_typed : (b : Bool) (o : Option ScalarValue) → o ≡ None → (if b then o else None) ≡ None
if_typed true o h = h
if_typed false o h = refl

module _ (f : AggregateFnRef) (t : DType) (n : ℕ) where
  unknown_behind : (more : List Named) (i : ℕ) → column_value f t (slice_get more i) (slice_get (replicate (length more) []) i) n ≡ None
  unknown_behind [] i = refl
  unknown_behind (c ∷ more) zero = if_typed (eq_ignore_nullability c.1 t) (stat_value f [] n) (no_value f n)
  unknown_behind (c ∷ more) (suc i) = unknown_behind more i

  widened_value : (cs more : List Named) (ss : List Entries) (i : ℕ) → fits_zone cs ss ≡ true
      → column_value f t (slice_get (cs ++ more) i) (slice_get (ss ++ replicate (length more) []) i) n ≡ column_value f t (slice_get cs i) (slice_get ss i) n
  widened_value [] more [] i h = unknown_behind more i
  widened_value [] more (s ∷ ss) i h = cc
  widened_value (c ∷ cs) more [] i h = cc
  widened_value (c ∷ cs) more (s ∷ ss) zero h = refl
  widened_value (c ∷ cs) more (s ∷ ss) (suc i) h = widened_value cs more ss i (both_true (entries_fit s c.1) (fits_zone cs ss) h).1

told_alike : (scope more : List Named) (zone : ZoneData) → fits_zone scope zone.stats ≡ true → (f : AggregateFnRef) (x : Tree Place)
    → told_values (scope ++ more) (widened_zone (length more) zone) f x ≡ told_values scope zone f x
told_alike scope more zone h f (column c) = widened_value f c.dtype zone.rows scope more zone.stats c.index h
told_alike scope more zone h f _ = refl

told_widened : (scope more : List Named) (zone : ZoneData) → fits_zone scope zone.stats ≡ true → told_values (scope ++ more) (widened_zone (length more) zone) ≡ told_values scope zone
told_widened scope more zone h = λ i f x. told_alike scope more zone h f x i

-- ---- the part

abbrev told_part : List Named → List Named → (Leaf → Option Bool) → List Leaf → PartData → PartData
told_part scope more f ls part = record {
  chunk = record { scope = scope ++ more; columns = with_columns (row_count part.chunk.columns) f ls part.chunk.columns };
  stats = part.stats ++ replicate (length more) [];
}

same_rows : (n : ℕ) (f : Leaf → Option Bool) (ls : List Leaf) (ss : List Named) (cs : List ColumnData) → IsScope ss → has_types ss cs ≡ true → row_count (with_columns n f ls cs) ≡ row_count cs
same_rows n f ls [] cs h k = cc
same_rows n f ls (s ∷ ss) [] h k = cc
same_rows n f ls (s ∷ ss) (c ∷ cs) h k = refl

module _ (scope more : List Named) (f : Leaf → Option Bool) (ls : List Leaf) (wide : IsScope (scope ++ more)) (columns : AreColumnsOf more ls)
    (part : PartData) (is_part : IsPart part) (scoped : part.chunk.scope ≡ scope) where
  abbrev cs : List ColumnData
  cs = part.chunk.columns

  abbrev n : ℕ
  n = row_count cs

  chunk_types : has_types scope cs ≡ true
  chunk_types =
      let h = (both_true _ _ (both_true _ _ (both_true _ _ is_part.0).1).1).0 in
      subst (λ (s : List Named). has_types s cs ≡ true) scoped h

  chunk_scope : IsScope scope
  chunk_scope = subst (λ (s : List Named). IsScope s) scoped (both_true _ _ is_part.0).0

  pub wide_rows : row_count (with_columns n f ls cs) ≡ n
  wide_rows = same_rows n f ls scope cs chunk_scope chunk_types

  wide_types : has_types (scope ++ more) (with_columns n f ls cs) ≡ true
  wide_types = pointwise-append (λ s c. dtype_eq s.1 c.dtype) scope more cs (told_columns n f ls) chunk_types (told_types n f more ls columns)

  wide_long : all_long (row_count (with_columns n f ls cs)) (with_columns n f ls cs) ≡ true
  wide_long =
      let h = (both_true _ _ (both_true _ _ (both_true _ _ is_part.0).1).0).1 in
      subst (λ (m : ℕ). all_long m (with_columns n f ls cs) ≡ true) (sym wide_rows)
      (all-append (λ c. length c.values == n) cs (told_columns n f ls) h (told_long n f ls))

  wide_fit : list_all is_column (with_columns n f ls cs) ≡ true
  wide_fit =
      let h : list_all is_column cs ≡ true = (both_true (has_types part.chunk.scope cs) (list_all is_column cs) (both_true (has_shape part.chunk.scope cs) (has_types part.chunk.scope cs && list_all is_column cs) (both_true (is_scope part.chunk.scope) (has_shape part.chunk.scope cs && (has_types part.chunk.scope cs && list_all is_column cs)) is_part.0).1).1).1 in
      all-append is_column cs (told_columns n f ls) h (told_fit n f ls)

  wide_chunk : IsChunk (told_part scope more f ls part).chunk
  wide_chunk =
      let long = equal_itself _ _ (pointwise-length (λ s c. dtype_eq s.1 c.dtype) (scope ++ more) (with_columns n f ls cs) wide_types) in
      both_hold _ _ wide (both_hold _ _ (both_hold _ _ long wide_long) (both_hold _ _ wide_types wide_fit))

  wide_sets : IsTrue (sets_fit (with_columns n f ls cs) (part.stats ++ replicate (length more) []))
  wide_sets = subst (λ (ts : List DType). each_fits ts (part.stats ++ replicate (length more) []) ≡ true) (sym (types-append cs (told_columns n f ls)))
      (pointwise-append (λ t es. entries_fit es t) (map (λ c. c.dtype) cs) (map (λ c. c.dtype) (told_columns n f ls)) part.stats (replicate (length more) []) is_part.1 (nothing_fits n f more ls columns))

  wide_part : (zone : ZoneData) → zone_of part ≡ zone → IsPartOf (scope ++ more) (widened_zone (length more) zone) (told_part scope more f ls part)
  wide_part zone known = record {
    is_part = (wide_chunk, wide_sets);
    scoped = refl;
    known = ap (λ rows. record { rows = rows; stats = part.stats ++ replicate (length more) [] }) wide_rows ∙ ap (widened_zone (length more)) known;
  }

  wide_true : IsTruePart part → IsTruePart (told_part scope more f ls part)
  wide_true h = true-append cs (told_columns n f ls) part.stats (replicate (length more) []) h (true_behind n f more ls columns)

  -- what the zone's own statistics tell is honest of the wide part
  wide_honest : (zone : ZoneData) → zone_of part ≡ zone → IsTruePart part → IsHonest (told_values scope zone) (with_columns n f ls cs)
  wide_honest zone known is_true =
      let fits : fits_zone scope zone.stats ≡ true = subst (λ (z : ZoneData). fits_zone scope z.stats ≡ true) known (subst (λ (s : List Named). fits_zone s part.stats ≡ true) scoped (part_is_zone part is_part)) in
      subst (λ (A : Assignment). IsHonest A (with_columns n f ls cs)) (told_widened scope more zone fits)
      (told_is_honest (scope ++ more) (widened_zone (length more) zone) (told_part scope more f ls part) (wide_part zone known) (wide_true is_true))

-- ---- the law

module _ (s : SchemaData) (more : List Named) (c : Condition) (x : Pruning) (wide : IsScope (s.scope ++ more)) (says : Says s c x.predicate) (columns : AreColumnsOf more (opaques s c))
    (fits : IsTrue (fits_scope x.predicate (s.scope ++ more))) (right : IsRight x) (zone : ZoneData) (part : PartData) (of : IsPartOf s.scope zone part) (true_part : IsTruePart part) where
  abbrev own : List ColumnData
  own = part.chunk.columns

  abbrev count : ℕ
  count = row_count part.chunk.columns

  -- the columns with those that tell of leaves
  abbrev wide_columns : (Leaf → Option Bool) → List ColumnData
  wide_columns f = with_columns (row_count part.chunk.columns) f (opaques s c) part.chunk.columns

  over : (f : Leaf → Option Bool) → IsOver x.predicate (told_part s.scope more f (opaques s c) part).chunk
  over f = is_over_chunk x.predicate (told_part s.scope more f (opaques s c) part).chunk (predicate_typed (type_of x.predicate) right.predicate) right.plain fits

  -- where each row of the wide part satisfies the predicate or doesn't, whatever is told of the leaves
  abbrev IsAnswered : Bool → ℕ → Type 0
  IsAnswered b r = (f : Leaf → Option Bool) → satisfies x.predicate (row_of r (wide_columns f)) count ≡ b

  rows_wide : (f : Leaf → Option Bool) → row_count (wide_columns f) ≡ count
  rows_wide f = wide_rows s.scope more f (opaques s c) wide columns part of.is_part of.scoped

  -- a proof that is true by the zone's statistics is true over the wide part
  proved_wide : (f : Leaf → Option Bool) (proof : Option (Tree Place)) → proves_of proof zone.rows (told_values s.scope zone) ≡ true → proves_of proof (row_count (wide_columns f)) (told_values s.scope zone) ≡ true
  proved_wide f proof h =
      let same : row_count (wide_columns f) ≡ zone.rows = rows_wide f ∙ ap (λ (z : ZoneData). z.rows) of.known in
      ap (λ m. proves_of proof m (told_values s.scope zone)) same ∙ h

  to_own : (b : Bool) (r : ℕ) → r < count → ((f : Leaf → Option Bool) → r < row_count (wide_columns f) → satisfies x.predicate (row_of r (wide_columns f)) (row_count (wide_columns f)) ≡ b) → IsAnswered b r
  to_own b r below h f =
      subst (λ (m : ℕ). satisfies x.predicate (row_of r (wide_columns f)) m ≡ b) (rows_wide f) (h f (subst (λ (m : ℕ). r < m) (sym (rows_wide f)) below))

  none_satisfies : proves_of x.falsifier zone.rows (told_values s.scope zone) ≡ true → (r : ℕ) → r < count → IsAnswered false r
  none_satisfies h r below =
      to_own false r below
      (λ f less. right.falsifies (told_part s.scope more f (opaques s c) part).chunk (told_values s.scope zone)
      (wide_chunk s.scope more f (opaques s c) wide columns part of.is_part of.scoped) (over f)
      (wide_honest s.scope more f (opaques s c) wide columns part of.is_part of.scoped zone of.known true_part) (proved_wide f x.falsifier h) r less)

  each_satisfies : proves_of x.satisfier zone.rows (told_values s.scope zone) ≡ true → (r : ℕ) → r < count → IsAnswered true r
  each_satisfies h r below =
      to_own true r below
      (λ f less. right.satisfies (told_part s.scope more f (opaques s c) part).chunk (told_values s.scope zone)
      (wide_chunk s.scope more f (opaques s c) wide columns part of.is_part of.scoped) (over f)
      (wide_honest s.scope more f (opaques s c) wide columns part of.is_part of.scoped zone of.known true_part) (proved_wide f x.satisfier h) r less)

  refuted : RefutesCondition → proves_of x.falsifier zone.rows (told_values s.scope zone) ≡ true → (r : ℕ) → r < count → Refuted s c own r
  refuted law h r below = law part.chunk s c x.predicate (sym of.scoped) of.is_part.0 says r below (none_satisfies h r below)

  confirmed : ConfirmsCondition → proves_of x.satisfier zone.rows (told_values s.scope zone) ≡ true → (r : ℕ) → r < count → Confirmed s c own r
  confirmed law h r below = law part.chunk s c x.predicate (sym of.scoped) of.is_part.0 says r below (each_satisfies h r below)

pub tell : RefutesCondition → ConfirmsCondition → ProofsTell
tell refutes confirms s more c x wide says columns fits right = (
  (λ zone part of true_part h r below. refuted s more c x wide says columns fits right zone part of true_part refutes h r below),
  (λ zone part of true_part h r below. confirmed s more c x wide says columns fits right zone part of true_part confirms h r below),
)
