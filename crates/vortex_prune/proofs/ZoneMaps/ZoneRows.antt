-- A row of the table of a map of zones has the table's types, and tells what its zone's statistics do.
use Rattle.std.proofs.Common.{◌≡◌, ℕ, zero, suc, Bool, true, false, List, [], ◌∷◌, Option, Some, None, map, refl, subst, sym, ap, ◌∙◌}
use Rattle.std.specs.Prelude.{◌+◌, IsTrue, if◌then◌else◌, length, option_map, slice_get}
use Rattle.std.proofs.lemmas.Option.{slice_get-map}
use lib.Pointwise.{pointwise}
use Rattle.vortex_base.specs.Data.Columns.{ChunkData, ColumnData, IsChunk, cell_value, has_types, row_of, value_at}
use Rattle.vortex_base.specs.Data.Exact.{both_hold, both_true}
use Rattle.vortex_base.specs.Data.Scalars.{Constant}
use Rattle.vortex_base.specs.Data.Scopes.{Named}
use Rattle.vortex_expr.specs.Trees.Tree.{Place, Tree, column}
use Rattle.vortex_base.specs.Data.Types.{dtype_eq, eq_ignore_nullability}
use Rattle.vortex_base.specs.declared.aggregate.AggregateFnRef.{AggregateFnRef}
use Rattle.vortex_base.specs.declared.aggregate.AggregateFnRef.TheVariants as aggregate
use Rattle.vortex_base.specs.declared.dtype.DType.{DType}
use Rattle.vortex_base.specs.declared.dtype.DType.TheVariants as dtype
use Rattle.vortex_base.specs.declared.types.Element.{Element}
use Rattle.vortex_base.specs.declared.types.Nullability.{Nullability}
use Rattle.vortex_base.specs.declared.scalar_value.ScalarValue.{ScalarValue}
use Rattle.vortex_base.specs.declared.scalar_value.ScalarValue.TheVariants as value
use Rattle.vortex_stats.proofs.Sets.Fitting.{entry_value-fits}
use Rattle.vortex_stats.specs.Sets.Entries.{entry_value, entries_fit, is_value_of, value_fits}
use Rattle.vortex_stats.specs.Precision.{present_value}
use Rattle.vortex_stats.specs.Stat.{stat_dtype}
use Rattle.vortex_stats.specs.declared.precision.Precision.{Precision}
use Rattle.vortex_stats.specs.declared.precision.Precision.TheVariants.{Exact, Inexact, Absent}
use Rattle.vortex_stats.specs.declared.stat.Stat.{Stat}
use Rattle.vortex_stats.specs.declared.stat.Stat.TheVariants.{Max, Min, Sum}
use Rattle.vortex_prune.proofs.Honesty.HonestParts.{part_is_honest}
use Rattle.vortex_prune.proofs.Honesty.PartLemmas.{types_of}
use Rattle.vortex_prune.specs.Binding.Binders.{IsHonestOver}
use Rattle.vortex_rewrite.specs.Facts.{IsHonest}
use Rattle.vortex_prune.specs.Part.{IsPartOf, IsTruePart, PartData, zone_of}
use Rattle.vortex_zone_map.specs.Zone.{Entries, ZoneData, fits_zone}
use Rattle.vortex_prune.specs.Binding.PartAnswers.{column_value, part_values, told_values}
use Rattle.vortex_rewrite.specs.Rewriting.Proof.{Assignment}
use Rattle.vortex_zone_map.specs.StatValues.{exact_value, stat_value}
use Rattle.vortex_zone_map.proofs.ZoneMaps.HeadPlaces.{place_of}
use Rattle.vortex_prune.specs.Zones.{cell_at, is_zone_row, zone_values}
use Rattle.vortex_zone_map.specs.ZoneMaps.{StatColumn, IsMapOf, MapData, head, heads, named_head, offset, set_value, supporting, zone_column, zone_columns, zone_place, zone_value}

-- ---- the row's types

row_types : (hs : List StatColumn) (cs : List ColumnData) (r : ℕ) → has_types (map named_head hs) cs ≡ true → pointwise (λ (h : StatColumn) (c : Constant). dtype_eq h.dtype c.dtype) hs (row_of r cs) ≡ true
row_types [] [] r h = refl
row_types [] (c ∷ cs) r h = cc
row_types (x ∷ hs) [] r h = cc
row_types (x ∷ hs) (c ∷ cs) r h = both_hold _ _ (both_true _ _ h).0 (row_types hs cs r (both_true _ _ h).1)

pub row_is_zone_row : (scope : List Named) (table : ChunkData) (r : ℕ) → IsChunk table → table.scope ≡ map named_head (heads scope) → IsTrue (is_zone_row scope (row_of r table.columns))
row_is_zone_row scope table r is named = row_types (heads scope) table.columns r (ap (λ ns. has_types ns table.columns) (sym named) ∙ types_of table is)

-- ---- the row's cells

abbrev cell_of : ℕ → ColumnData → Constant
cell_of r c = record { dtype = c.dtype; value = value_at (slice_get c.values r) }

-- in a table with the zones' column below a head
pub cell_told : (cs : List ColumnData) (zones : List ZoneData) (r k : ℕ) (h : StatColumn) (z : ZoneData) (c : ColumnData) → slice_get cs k ≡ Some c → c ≡ zone_column zones h → slice_get zones r ≡ Some z
    → cell_value (slice_get (row_of r cs) k) ≡ zone_value h.aggregate h.source z
cell_told cs zones r k h z c there is zone =
    let one : slice_get (row_of r cs) k ≡ Some (cell_of r (zone_column zones h)) = slice_get-map (cell_of r) cs k ∙ ap (option_map (cell_of r)) (there ∙ ap Some is) in
    ap cell_value one ∙ ap value_at (slice_get-map (zone_value h.aggregate h.source) zones r ∙ ap (option_map (zone_value h.aggregate h.source)) zone)

pub cell_is : (hs : List StatColumn) (zones : List ZoneData) (r k : ℕ) (h : StatColumn) (z : ZoneData) → slice_get hs k ≡ Some h → slice_get zones r ≡ Some z
    → cell_value (slice_get (row_of r (map (zone_column zones) hs)) k) ≡ zone_value h.aggregate h.source z
cell_is hs zones r k h z there zone =
    cell_told (map (zone_column zones) hs) zones r k h z (zone_column zones h) (slice_get-map (zone_column zones) hs k ∙ ap (option_map (zone_column zones)) there) refl zone

-- ---- an aggregate that has no column in the table has no value

none_of : (o : Option DType) (p : Precision ScalarValue) → ((v : ScalarValue) → is_value_of o v ≡ false) → (s : Stat) (t : DType) → stat_dtype s t ≡ o → value_fits s t p ≡ true → present_value p ≡ None
none_of o (Exact v) none s t e h = let no = none v in cc
none_of o (Inexact v) none s t e h = let no = none v in cc
none_of o Absent none s t e h = refl

none_exact : (p : Precision ScalarValue) → present_value p ≡ None → exact_value p ≡ None
none_exact (Exact v) h = cc
none_exact (Inexact v) h = refl
none_exact Absent h = refl

no_state : (e : Element) (n : Nullability) (v : ScalarValue) → is_value_of (Some (dtype.MinMaxState e n)) v ≡ false
no_state e n (value.Bool b) = refl
no_state e n (value.Primitive p) = refl
no_state e n (value.Utf8 s) = refl
no_state e n (value.Binary s) = refl

no_type : (v : ScalarValue) → is_value_of None v ≡ false
no_type v = refl

pub outside_is_null : (f : AggregateFnRef) (t : DType) (es : Entries) (n : ℕ) → offset f t ≡ None → entries_fit es t ≡ true → stat_value f es n ≡ None
outside_is_null aggregate.Max dtype.Null es n h fits = none_of None (entry_value Max es) no_type Max dtype.Null refl (entry_value-fits Max dtype.Null es fits)
outside_is_null aggregate.Max (dtype.MinMaxState e m) es n h fits = none_of (Some (dtype.MinMaxState e m)) (entry_value Max es) (no_state e m) Max (dtype.MinMaxState e m) refl (entry_value-fits Max (dtype.MinMaxState e m) es fits)
outside_is_null aggregate.Max (dtype.Bool m) es n h fits = cc
outside_is_null aggregate.Max (dtype.Primitive p m) es n h fits = cc
outside_is_null aggregate.Max (dtype.Utf8 m) es n h fits = cc
outside_is_null aggregate.Max (dtype.Binary m) es n h fits = cc
outside_is_null aggregate.Min dtype.Null es n h fits = none_of None (entry_value Min es) no_type Min dtype.Null refl (entry_value-fits Min dtype.Null es fits)
outside_is_null aggregate.Min (dtype.MinMaxState e m) es n h fits = none_of (Some (dtype.MinMaxState e m)) (entry_value Min es) (no_state e m) Min (dtype.MinMaxState e m) refl (entry_value-fits Min (dtype.MinMaxState e m) es fits)
outside_is_null aggregate.Min (dtype.Bool m) es n h fits = cc
outside_is_null aggregate.Min (dtype.Primitive p m) es n h fits = cc
outside_is_null aggregate.Min (dtype.Utf8 m) es n h fits = cc
outside_is_null aggregate.Min (dtype.Binary m) es n h fits = cc
outside_is_null aggregate.Sum dtype.Null es n h fits = none_exact (entry_value Sum es) (none_of None (entry_value Sum es) no_type Sum dtype.Null refl (entry_value-fits Sum dtype.Null es fits))
outside_is_null aggregate.Sum (dtype.Utf8 m) es n h fits = none_exact (entry_value Sum es) (none_of None (entry_value Sum es) no_type Sum (dtype.Utf8 m) refl (entry_value-fits Sum (dtype.Utf8 m) es fits))
outside_is_null aggregate.Sum (dtype.Binary m) es n h fits = none_exact (entry_value Sum es) (none_of None (entry_value Sum es) no_type Sum (dtype.Binary m) refl (entry_value-fits Sum (dtype.Binary m) es fits))
outside_is_null aggregate.Sum (dtype.MinMaxState e m) es n h fits =
    none_exact (entry_value Sum es) (none_of None (entry_value Sum es) no_type Sum (dtype.MinMaxState e m) refl (entry_value-fits Sum (dtype.MinMaxState e m) es fits))
outside_is_null aggregate.Sum (dtype.Bool m) es n h fits = cc
outside_is_null aggregate.Sum (dtype.Primitive p m) es n h fits = cc
outside_is_null aggregate.NullCount t es n h fits = elim t as (λ u. offset aggregate.NullCount u ≡ None → stat_value aggregate.NullCount es n ≡ None) [ dtype.Null ↦ λ e. cc | dtype.Bool m ↦ λ e. cc | dtype.Primitive p m ↦ λ e. cc | dtype.Utf8 m ↦ λ e. cc | dtype.Binary m ↦ λ e. cc | dtype.MinMaxState x m ↦ λ e. cc ] h
outside_is_null aggregate.UncompressedSizeInBytes t es n h fits = elim t as (λ u. offset aggregate.UncompressedSizeInBytes u ≡ None → stat_value aggregate.UncompressedSizeInBytes es n ≡ None) [ dtype.Null ↦ λ e. cc | dtype.Bool m ↦ λ e. cc | dtype.Primitive p m ↦ λ e. cc | dtype.Utf8 m ↦ λ e. cc | dtype.Binary m ↦ λ e. cc | dtype.MinMaxState x m ↦ λ e. cc ] h
outside_is_null aggregate.AllNull t es n h fits = elim t as (λ u. offset aggregate.AllNull u ≡ None → stat_value aggregate.AllNull es n ≡ None) [ dtype.Null ↦ λ e. cc | dtype.Bool m ↦ λ e. cc | dtype.Primitive p m ↦ λ e. cc | dtype.Utf8 m ↦ λ e. cc | dtype.Binary m ↦ λ e. cc | dtype.MinMaxState x m ↦ λ e. cc ] h
outside_is_null aggregate.AllNonNull t es n h fits = elim t as (λ u. offset aggregate.AllNonNull u ≡ None → stat_value aggregate.AllNonNull es n ≡ None) [ dtype.Null ↦ λ e. cc | dtype.Bool m ↦ λ e. cc | dtype.Primitive p m ↦ λ e. cc | dtype.Utf8 m ↦ λ e. cc | dtype.Binary m ↦ λ e. cc | dtype.MinMaxState x m ↦ λ e. cc ] h
outside_is_null aggregate.MinMax t es n h fits = refl
outside_is_null aggregate.NanCount t es n h fits = refl

-- ---- the row's values are those that the zone's statistics answer

module _ (f : AggregateFnRef) (t : DType) (n : ℕ) where
  column_unknown : (c : Named) (es : Entries) (b : Bool) → entries_fit es c.1 ≡ true → eq_ignore_nullability c.1 t ≡ b → (if b then offset f c.1 else None) ≡ None
      → column_value f t (Some c) (Some es) n ≡ None
  column_unknown c es true fits e h = ap (λ b. if b then stat_value f es n else None) e ∙ outside_is_null f c.1 es n h fits
  column_unknown c es false fits e h = ap (λ b. if b then stat_value f es n else None) e

  left_none : (w : ℕ) (o : Option ℕ) → option_map (λ k. w + k) o ≡ None → o ≡ None
  left_none w None h = refl
  left_none w (Some k) h = cc

  unknown_at : (cs : List Named) (ss : List Entries) (i : ℕ) → fits_zone cs ss ≡ true → zone_place cs i f t ≡ None → column_value f t (slice_get cs i) (slice_get ss i) n ≡ None
  unknown_at [] ss i h e = refl
  unknown_at (c ∷ cs) [] i h e = cc
  unknown_at (c ∷ cs) (es ∷ ss) zero h e = column_unknown c es (eq_ignore_nullability c.1 t) (both_true _ _ h).0 refl e
  unknown_at (c ∷ cs) (es ∷ ss) (suc i) h e = unknown_at cs ss i (both_true _ _ h).1 (left_none (length (supporting c.1)) (zone_place cs i f t) e)

  known_set : (c : Named) (o : Option Entries) → eq_ignore_nullability c.1 t ≡ true → set_value f o n ≡ column_value f t (Some c) o n
  known_set c None e = refl
  known_set c (Some es) e = ap (λ b. if b then stat_value f es n else None) (sym e)

  known_at : (cs : List Named) (o : Option Entries) (i : ℕ) (c : Named) → slice_get cs i ≡ Some c → eq_ignore_nullability c.1 t ≡ true → set_value f o n ≡ column_value f t (slice_get cs i) o n
  known_at cs o i c there e = known_set c o e ∙ ap (λ x. column_value f t x o n) (sym there)

module _ (scope : List Named) (cs : List ColumnData) (r : ℕ) (z : ZoneData) where
  -- below a head for this aggregate of the column at a place the row holds what the zone tells
  abbrev pub HoldsTold : AggregateFnRef → ℕ → Type 0
  HoldsTold f i = (k : ℕ) (c : Named) → slice_get (heads scope) k ≡ Some (head i c f) → cell_value (slice_get (row_of r cs) k) ≡ zone_value f i z

  pub column_told : fits_zone scope z.stats ≡ true → (f : AggregateFnRef) (i : ℕ) (t : DType) (o : Option ℕ) → zone_place scope i f t ≡ o → HoldsTold f i
      → cell_at (row_of r cs) o ≡ column_value f t (slice_get scope i) (slice_get z.stats i) z.rows
  column_told is f i t None e holds = sym (unknown_at f t z.rows scope z.stats i is e)
  column_told is f i t (Some k) e holds =
      let q = place_of scope i f t k e in
      holds k q.0 q.3 ∙ known_at f t z.rows scope (slice_get z.stats i) i q.0 q.1 q.2

module _ (scope : List Named) (zones : List ZoneData) (r : ℕ) (z : ZoneData) (zone : slice_get zones r ≡ Some z) (is : fits_zone scope z.stats ≡ true) where
  column_same : (f : AggregateFnRef) (i : ℕ) (t : DType) (o : Option ℕ) → zone_place scope i f t ≡ o
      → cell_at (row_of r (zone_columns scope zones)) o ≡ column_value f t (slice_get scope i) (slice_get z.stats i) z.rows
  column_same f i t o e = column_told scope (zone_columns scope zones) r z is f i t o e (λ k c there. cell_is (heads scope) zones r k (head i c f) z there zone)

  value_same : (f : AggregateFnRef) (x : Tree Place) → zone_values scope (row_of r (zone_columns scope zones)) f x ≡ told_values scope z f x
  value_same f (column c) = column_same f c.index c.dtype (zone_place scope c.index f c.dtype) refl
  value_same f _ = refl

  table_values : zone_values scope (row_of r (zone_columns scope zones)) ≡ told_values scope z
  table_values = λ i f x. value_same f x i

-- in a map of zones
pub values_same : (m : MapData) (zones : List ZoneData) (r : ℕ) (z : ZoneData) → IsMapOf zones m → slice_get zones r ≡ Some z → zone_values m.scope (row_of r m.table.columns) ≡ told_values m.scope z
values_same m zones r z is there =
    ap (λ (x : MapData). zone_values m.scope (row_of r x.table.columns)) is.same ∙ table_values m.scope zones r z there (is.are_zones r z there)

told_same : (scope : List Named) (z : ZoneData) (p : PartData) → IsPartOf scope z p → told_values scope z ≡ part_values p
told_same scope z p of = ap (told_values scope) (sym of.known) ∙ ap (λ ns. told_values ns (zone_of p)) (sym of.scoped)

-- so for whatever stands in a zone, whose statistics are true of it, the values are facts of it
pub told_is_honest : (scope : List Named) (z : ZoneData) (p : PartData) → IsPartOf scope z p → IsTruePart p → IsHonest (told_values scope z) p.chunk.columns
told_is_honest scope z p of is_true = subst (λ (a : Assignment). IsHonest a p.chunk.columns) (sym (told_same scope z p of)) (part_is_honest p of.is_part is_true)

pub row_is_honest : (m : MapData) (zones : List ZoneData) (r : ℕ) (z : ZoneData) (p : PartData) → IsTrue (is_zone_row m.scope (row_of r m.table.columns)) → IsMapOf zones m → slice_get zones r ≡ Some z → IsPartOf m.scope z p → IsTruePart p
    → IsHonestOver (λ row n. is_zone_row m.scope row) (λ row n. zone_values m.scope row) (row_of r m.table.columns) p.chunk
row_is_honest m zones r z p typed is there of is_true =
    (typed, subst (λ (a : Assignment). IsHonest a p.chunk.columns) (sym (values_same m zones r z is there)) (told_is_honest m.scope z p of is_true))
