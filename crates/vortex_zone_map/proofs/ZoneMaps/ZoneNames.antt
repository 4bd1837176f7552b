-- The columns of a table of zones make a scope, and with their values a chunk.
use Rattle.std.proofs.Common.{◌≡◌, ◌<◌, ◌||◌, ◌+◌, ◌++◌, ◌==◌, ℕ, zero, suc, Bool, true, false, not, List, [], ◌∷◌, Option, Some, Ok, Result, arith, length, map, refl, subst, sym, ap, take, ◌∙◌}
use Rattle.std.specs.Prelude.{Err, IsTrue, bytes_eq, slice_get}
use Rattle.std.specs.List.{AllByRecursion, list_any}
use Rattle.std.proofs.Math.Seq.{take-append_seam}
use Rattle.std.proofs.lemmas.Bool.Decides.{nat_tests}
use Rattle.std.proofs.lemmas.List.{append_cancel_left, length-append, length-map, map-append}
use Rattle.std.proofs.lemmas.List.Folds.{list_any-append}
use Rattle.std.proofs.lemmas.Option.{same_Some}
use Rattle.vortex_base.specs.Data.Columns.{ChunkData, ColumnData, all_fit, all_long, chunk_of, has_shape, has_types, row_count as rows_of}
use Rattle.vortex_base.specs.Data.Exact.{both_hold, both_true}
use Rattle.vortex_base.specs.Data.Scalars.{is_optional_value}
use Rattle.vortex_base.specs.Data.Scopes.{IsScope, Named, bytes_eq_is_exact, has_duplicate, is_empty, is_named, is_state_column}
use Rattle.vortex_base.specs.Data.Types.{dtype_eq_is_exact}
use Rattle.vortex_expr.specs.Meanings.Typing.{stat_type}
use Rattle.vortex_base.specs.declared.aggregate.AggregateFnRef.{AggregateFnRef}
use Rattle.vortex_base.specs.declared.dtype.DType.{DType}
use Rattle.vortex_base.specs.declared.dtype.DType.TheVariants as dtype
use Rattle.vortex_base.specs.declared.error.BaseError.{BaseError}
use Rattle.vortex_base.specs.declared.scalar_value.ScalarValue.{ScalarValue}
use Rattle.vortex_stats.specs.Sets.Entries.{entries_fit}
use Rattle.vortex_zone_map.proofs.StatFits.{stat_value-fits}
use Rattle.vortex_zone_map.proofs.ZoneLemmas.{set_of_zone}
use Rattle.vortex_zone_map.specs.Zone.{AreZonesOf, Entries, ZoneData}
use Rattle.vortex_zone_map.specs.ZoneMaps.{EachTells, StatColumn, TellsOf, head, named_head, heads, heads_from, set_value, suffix, supporting, zone_column, zone_table, zone_type, zone_value}

both_false : (a b : Bool) → a ≡ false → b ≡ false → (a || b) ≡ false
both_false true b h k = cc
both_false false b h k = k

first_false : (a b : Bool) → (a || b) ≡ false → a ≡ false
first_false true b h = cc
first_false false b h = refl

second_false : (a b : Bool) → (a || b) ≡ false → b ≡ false
second_false true b h = cc
second_false false b h = h

-- ---- names that differ

refuted : (b : Bool) → (b ≡ true → ⊥) → b ≡ false
refuted true h = absurd (h refl)
refuted false h = refl

ends_apart : (n s t : List ℕ) → bytes_eq s t ≡ false → bytes_eq (n ++ s) (n ++ t) ≡ false
ends_apart n s t h = refuted (bytes_eq (n ++ s) (n ++ t)) (λ e.
    let same = (bytes_eq_is_exact s t).1 (append_cancel_left n s t ((bytes_eq_is_exact (n ++ s) (n ++ t)).0 e)) in
    let no : true ≡ false = sym same ∙ h in
    absurd cc)

starts_apart : (a b s t : List ℕ) → length s ≡ length t → bytes_eq a b ≡ false → bytes_eq (a ++ s) (b ++ t) ≡ false
starts_apart a b s t long h = refuted (bytes_eq (a ++ s) (b ++ t)) (λ e.
    let whole = (bytes_eq_is_exact (a ++ s) (b ++ t)).0 e in
    let as_long : length a ≡ length b = omega (arith, ap length whole, length-append a s, length-append b t, long) in
    let same : a ≡ b = sym (take-append_seam a s) ∙ ap (take (length a)) whole ∙ ap (λ n. take n (b ++ t)) as_long ∙ take-append_seam b t in
    let no : true ≡ false = sym ((bytes_eq_is_exact a b).1 same) ∙ h in
    absurd cc)

-- ---- the aggregates of one column

abbrev IsShort : AggregateFnRef → Type 0
IsShort f = length (suffix f) ≡ 2

all_short : (t : DType) → AllByRecursion IsShort (supporting t)
all_short dtype.Null = (refl, (refl, (refl, (refl, tt))))
all_short (dtype.Bool n) = (refl, (refl, (refl, (refl, (refl, (refl, (refl, tt)))))))
all_short (dtype.Primitive p n) = (refl, (refl, (refl, (refl, (refl, (refl, (refl, tt)))))))
all_short (dtype.Utf8 n) = (refl, (refl, (refl, (refl, (refl, (refl, tt))))))
all_short (dtype.Binary n) = (refl, (refl, (refl, (refl, (refl, (refl, tt))))))
all_short (dtype.MinMaxState e n) = (refl, (refl, (refl, (refl, tt))))

abbrev repeated : List AggregateFnRef → Bool
repeated [] = false
repeated (f ∷ fs) = list_any (λ g. bytes_eq (suffix g) (suffix f)) fs || repeated fs

none_repeated : (t : DType) → repeated (supporting t) ≡ false
none_repeated dtype.Null = refl
none_repeated (dtype.Bool n) = refl
none_repeated (dtype.Primitive p n) = refl
none_repeated (dtype.Utf8 n) = refl
none_repeated (dtype.Binary n) = refl
none_repeated (dtype.MinMaxState e n) = refl

module _ (m : ℕ) (c : Named) where
  abbrev group : List AggregateFnRef → List Named
  group fs = map named_head (map (head m c) fs)

  other_names : (fs : List AggregateFnRef) (name : List ℕ) (f : AggregateFnRef) → AllByRecursion IsShort fs → IsShort f → is_named name c ≡ false → list_any (is_named (name ++ suffix f)) (group fs) ≡ false
  other_names [] name f all short h = refl
  other_names (g ∷ fs) name f all short h = both_false _ _ (starts_apart c.0 name (suffix g) (suffix f) (all.0 ∙ sym short) h) (other_names fs name f all.1 short h)

  own_names : (fs : List AggregateFnRef) (f : AggregateFnRef) → list_any (λ g. bytes_eq (suffix g) (suffix f)) fs ≡ false → list_any (is_named (c.0 ++ suffix f)) (group fs) ≡ false
  own_names [] f h = refl
  own_names (g ∷ fs) f h = both_false _ _ (ends_apart c.0 (suffix g) (suffix f) (first_false _ _ h)) (own_names fs f (second_false _ _ h))

  group_distinct : (fs : List AggregateFnRef) (ys : List Named) → AllByRecursion IsShort fs → repeated fs ≡ false → ((f : AggregateFnRef) → IsShort f → list_any (is_named (c.0 ++ suffix f)) ys ≡ false) → has_duplicate ys ≡ false
      → has_duplicate (group fs ++ ys) ≡ false
  group_distinct [] ys all once apart h = h
  group_distinct (f ∷ fs) ys all once apart h =
      both_false _ _ (list_any-append (is_named (c.0 ++ suffix f)) (group fs) ys ∙ both_false _ _ (own_names fs f (first_false _ _ once)) (apart f all.0))
      (group_distinct fs ys all.1 (second_false _ _ once) apart h)

abbrev names_from : ℕ → List Named → List Named
names_from m cs = map named_head (heads_from m cs)

names_split : (m : ℕ) (c : Named) (cs : List Named) → names_from m (c ∷ cs) ≡ group m c (supporting c.1) ++ names_from (m + 1) cs
names_split m c cs = map-append named_head (map (head m c) (supporting c.1)) (heads_from (m + 1) cs)

none_named : (m : ℕ) (cs : List Named) (name : List ℕ) (f : AggregateFnRef) → IsShort f → list_any (is_named name) cs ≡ false → list_any (is_named (name ++ suffix f)) (names_from m cs) ≡ false
none_named m [] name f short h = refl
none_named m (c ∷ cs) name f short h =
    ap (list_any (is_named (name ++ suffix f))) (names_split m c cs)
    ∙ list_any-append (is_named (name ++ suffix f)) (group m c (supporting c.1)) (names_from (m + 1) cs)
    ∙ both_false _ _ (other_names m c (supporting c.1) name f (all_short c.1) short (first_false _ _ h)) (none_named (m + 1) cs name f short (second_false _ _ h))

distinct : (m : ℕ) (cs : List Named) → has_duplicate cs ≡ false → has_duplicate (names_from m cs) ≡ false
distinct m [] h = refl
distinct m (c ∷ cs) h =
    ap has_duplicate (names_split m c cs)
    ∙ group_distinct m c (supporting c.1) (names_from (m + 1) cs) (all_short c.1) (none_repeated c.1) (λ f short. none_named (m + 1) cs c.0 f short (first_false _ _ h)) (distinct (m + 1) cs (second_false _ _ h))

group_states : (m : ℕ) (n : List ℕ) (t : DType) → list_any is_state_column (group m (n, t) (supporting t)) ≡ false
group_states m n dtype.Null = refl
group_states m n (dtype.Bool k) = refl
group_states m n (dtype.Primitive p k) = refl
group_states m n (dtype.Utf8 k) = refl
group_states m n (dtype.Binary k) = refl
group_states m n (dtype.MinMaxState e k) = refl

no_states : (m : ℕ) (cs : List Named) → list_any is_state_column (names_from m cs) ≡ false
no_states m [] = refl
no_states m (c ∷ cs) =
    ap (list_any is_state_column) (names_split m c cs)
    ∙ list_any-append is_state_column (group m c (supporting c.1)) (names_from (m + 1) cs)
    ∙ both_false _ _ (group_states m c.0 c.1) (no_states (m + 1) cs)

group_some : (m : ℕ) (n : List ℕ) (t : DType) (ys : List Named) → is_empty (group m (n, t) (supporting t) ++ ys) ≡ false
group_some m n dtype.Null ys = refl
group_some m n (dtype.Bool k) ys = refl
group_some m n (dtype.Primitive p k) ys = refl
group_some m n (dtype.Utf8 k) ys = refl
group_some m n (dtype.Binary k) ys = refl
group_some m n (dtype.MinMaxState e k) ys = refl

some_named : (m : ℕ) (cs : List Named) → is_empty cs ≡ false → is_empty (names_from m cs) ≡ false
some_named m [] h = cc
some_named m (c ∷ cs) h = ap is_empty (names_split m c cs) ∙ group_some m c.0 c.1 (names_from (m + 1) cs)

not_true : (b : Bool) → not b ≡ true → b ≡ false
not_true true h = cc
not_true false h = refl

-- the columns of the table make a scope
names_are_scope : (cs : List Named) → IsScope cs → IsScope (map named_head (heads cs))
names_are_scope cs h =
    let a = both_true _ _ h in
    let b = both_true _ _ a.1 in
    let some = some_named 0 cs (not_true (is_empty cs) a.0) in
    let apart = distinct 0 cs (not_true (has_duplicate cs) b.0) in
    rw (some, apart, no_states 0 cs) refl

pub scope_is_made : (cs ns : List Named) (hs : List StatColumn) → IsScope cs → hs ≡ heads cs → ns ≡ map named_head hs → IsScope ns
scope_is_made cs ns hs is all named = subst IsScope (sym (named ∙ ap (map named_head) all)) (names_are_scope cs is)

-- there are some
some_long : (hs : List StatColumn) → is_empty (map named_head hs) ≡ false → 0 < length hs
some_long [] h = absurd cc
some_long (x ∷ hs) h = omega arith

pub has_heads : (cs : List Named) (hs : List StatColumn) → IsScope cs → hs ≡ heads cs → 0 < length hs
has_heads cs hs is all = subst (λ (l : List StatColumn). 0 < length l) (sym all) (some_long (heads cs) (some_named 0 cs (not_true (is_empty cs) (both_true _ _ is).0)))

-- ---- the chunk

long_as : (zones : List ZoneData) (n : ℕ) (hs : List StatColumn) → length zones ≡ n → all_long n (map (zone_column zones) hs) ≡ true
long_as zones n [] e = refl
long_as zones n (h ∷ hs) e =
    let k : length (map (zone_value h.aggregate h.source) zones) ≡ n = length-map zones (zone_value h.aggregate h.source) ∙ e in
    let test : (length (map (zone_value h.aggregate h.source) zones) == n) ≡ true = grind (arith, nat_tests) in
    both_hold _ _ test (long_as zones n hs e)

all_as_long : (zones : List ZoneData) (hs : List StatColumn) → all_long (rows_of (map (zone_column zones) hs)) (map (zone_column zones) hs) ≡ true
all_as_long zones [] = refl
all_as_long zones (h ∷ hs) = long_as zones (length (map (zone_value h.aggregate h.source) zones)) (h ∷ hs) (sym (length-map zones (zone_value h.aggregate h.source)))

as_many : (zones : List ZoneData) (hs : List StatColumn) → (length (map named_head hs) == length (map (zone_column zones) hs)) ≡ true
as_many zones hs =
    let k : length (map named_head hs) ≡ length (map (zone_column zones) hs) = length-map hs named_head ∙ sym (length-map hs (zone_column zones)) in
    grind (arith, nat_tests)

all_typed : (zones : List ZoneData) (hs : List StatColumn) → has_types (map named_head hs) (map (zone_column zones) hs) ≡ true
all_typed zones [] = refl
all_typed zones (h ∷ hs) = both_hold _ _ ((dtype_eq_is_exact h.dtype h.dtype).1 refl) (all_typed zones hs)

abbrev chunk : List Named → List ColumnData → ChunkData
chunk s cs = record { scope = s; columns = cs }

abbrev ok_chunk : ChunkData → Result ChunkData BaseError
ok_chunk k = Ok k

pub columns_are_chunk : (zones : List ZoneData) (hs : List StatColumn) → chunk_of (map named_head hs) (map (zone_column zones) hs) ≡ ok_chunk (chunk (map named_head hs) (map (zone_column zones) hs))
columns_are_chunk zones hs =
    let shape : has_shape (map named_head hs) (map (zone_column zones) hs) ≡ true = both_hold _ _ (as_many zones hs) (all_as_long zones hs) in
    rw (shape, all_typed zones hs) refl

-- ---- its values fit

value_fits : (f : AggregateFnRef) (t u : DType) (n : ℕ) (o : Option Entries) (es : Entries) → o ≡ Some es → stat_type f t ≡ Ok u → entries_fit es t ≡ true → is_optional_value (set_value f o n) u ≡ true
value_fits f t u n o es there e h = ap (λ x. is_optional_value (set_value f x n) u) there ∙ stat_value-fits f es n t u h e

pub values_fit : (zones : List ZoneData) (h : StatColumn) → EachTells zones h → all_fit h.dtype (map (zone_value h.aggregate h.source) zones) ≡ true
values_fit [] h tells = refl
values_fit (z ∷ zones) h tells =
    let own = tells 0 z refl in
    both_hold _ _ (value_fits h.aggregate own.0 h.dtype z.rows (slice_get z.stats h.source) own.1 own.2 own.4 own.3) (values_fit zones h (λ i zone e. tells (suc i) zone e))

-- ---- what the columns of the table tell of

abbrev IsTyped : DType → AggregateFnRef → Type 0
IsTyped t f = stat_type f t ≡ Ok (zone_type f t)

all_supported : (t : DType) → AllByRecursion (IsTyped t) (supporting t)
all_supported dtype.Null = (refl, (refl, (refl, (refl, tt))))
all_supported (dtype.Bool n) = (refl, (refl, (refl, (refl, (refl, (refl, (refl, tt)))))))
all_supported (dtype.Primitive p n) = (refl, (refl, (refl, (refl, (refl, (refl, (refl, tt)))))))
all_supported (dtype.Utf8 n) = (refl, (refl, (refl, (refl, (refl, (refl, tt))))))
all_supported (dtype.Binary n) = (refl, (refl, (refl, (refl, (refl, (refl, tt))))))
all_supported (dtype.MinMaxState e n) = (refl, (refl, (refl, (refl, tt))))

module _ (m : ℕ) (whole : List Named) (c : Named) (here : slice_get whole m ≡ Some c) where
  group_tells : (fs : List AggregateFnRef) (rest : List StatColumn) → AllByRecursion (IsTyped c.1) fs → ((k : ℕ) (h : StatColumn) → slice_get rest k ≡ Some h → TellsOf whole h) → (k : ℕ) (h : StatColumn) → slice_get (map (head m c) fs ++ rest) k ≡ Some h → TellsOf whole h
  group_tells [] rest all later k h at = later k h at
  group_tells (f ∷ fs) rest all later zero h at = subst (TellsOf whole) (same_Some (head m c f) h at) (c, here, all.0)
  group_tells (f ∷ fs) rest all later (suc k) h at = group_tells fs rest all.1 later k h at

tells_from : (m : ℕ) (whole cs : List Named) → ((j : ℕ) → slice_get whole (m + j) ≡ slice_get cs j) → (k : ℕ) (h : StatColumn) → slice_get (heads_from m cs) k ≡ Some h → TellsOf whole h
tells_from m whole [] same k h at = absurd cc
tells_from m whole (c ∷ cs) same k h at =
    let first : m + 0 ≡ m = omega arith in
    group_tells m whole c (ap (slice_get whole) (sym first) ∙ same 0) (supporting c.1) (heads_from (m + 1) cs) (all_supported c.1)
    (tells_from (m + 1) whole cs (λ j. let e : m + 1 + j ≡ m + suc j = omega arith in ap (slice_get whole) e ∙ same (suc j))) k h at

-- a column of the table tells of a column of the scope that its aggregate supports
pub head_tells : (scope : List Named) (k : ℕ) (h : StatColumn) → slice_get (heads scope) k ≡ Some h → TellsOf scope h
head_tells scope k h there = tells_from 0 scope scope (λ j. let e : 0 + j ≡ j = omega arith in ap (slice_get scope) e) k h there

-- of that each zone has a set that fits
pub zones_tell : (scope : List Named) (zones : List ZoneData) (h : StatColumn) → AreZonesOf scope zones → TellsOf scope h → EachTells zones h
zones_tell scope zones h are tells i zone at =
    let set = set_of_zone scope zone.stats h.source tells.0 (are i zone at) tells.1 in
    (tells.0.1, set.0, set.1, set.2, tells.2)

pub all_tell : (scope : List Named) (zones : List ZoneData) → AreZonesOf scope zones → (k : ℕ) (h : StatColumn) → slice_get (heads scope) k ≡ Some h → EachTells zones h
all_tell scope zones are k h there = zones_tell scope zones h are (head_tells scope k h there)

pub column_is_made : (zones : List ZoneData) (h : StatColumn) (t : DType) (vs : List (Option ScalarValue)) → EachTells zones h → t ≡ h.dtype → vs ≡ map (zone_value h.aggregate h.source) zones
    → IsTrue (all_fit t vs)
column_is_made zones h t vs tells typed made = ap (λ x. all_fit x vs) typed ∙ ap (all_fit h.dtype) made ∙ values_fit zones h tells

-- ---- no fault is found in them

abbrev err_chunk : BaseError → Result ChunkData BaseError
err_chunk f = Err f

apart_chunk : (f : BaseError) (k : ChunkData) → err_chunk f ≡ ok_chunk k → ⊥
apart_chunk f k h = absurd cc

same_chunk : (s t : ChunkData) → ok_chunk s ≡ ok_chunk t → s ≡ t
same_chunk s t h = cc

module _ (cs ns : List Named) (hs : List StatColumn) (zones : List ZoneData) (columns : List ColumnData) (all : hs ≡ heads cs) (named : ns ≡ map named_head hs) (own : columns ≡ map (zone_column zones) hs) where
  table_made : chunk_of ns columns ≡ ok_chunk (chunk (map named_head hs) (map (zone_column zones) hs))
  table_made = ap (λ s. chunk_of s columns) named ∙ ap (chunk_of (map named_head hs)) own ∙ columns_are_chunk zones hs

  pub chunk_is_made : (f : BaseError) → err_chunk f ≡ chunk_of ns columns → ⊥
  chunk_is_made f refused = apart_chunk f (chunk (map named_head hs) (map (zone_column zones) hs)) (refused ∙ table_made)

  pub table_is_made : (table : ChunkData) → ok_chunk table ≡ chunk_of ns columns → table ≡ zone_table cs zones
  table_is_made table done = same_chunk table (chunk (map named_head hs) (map (zone_column zones) hs)) (done ∙ table_made) ∙ ap (λ l. chunk (map named_head l) (map (zone_column zones) l)) all
