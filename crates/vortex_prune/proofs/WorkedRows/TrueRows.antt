-- Worked rows of tables whose rows are true of some rows, and of one that no zones have, found by computation alone.
use Rattle.std.proofs.Common.{◌≡◌, ℕ, zero, suc, Bool, true, false, List, [], ◌∷◌, Option, Some, None, ap, arith, length, refl, subst, sym, ◌∙◌}
use Rattle.std.specs.Prelude.{◌==◌, codes, if◌then◌else◌, pos, slice_get}
use Rattle.std.proofs.lemmas.Option.{same_Some}
use Rattle.vortex_base.specs.Data.Columns.{ChunkData, ColumnData, row_of, cell_value}
use Rattle.vortex_base.specs.Data.Scopes.{Named}
use Rattle.vortex_base.specs.declared.aggregate.AggregateFnRef.{AggregateFnRef}
use Rattle.vortex_base.specs.declared.aggregate.AggregateFnRef.TheVariants.{Max, Min, Sum, NullCount, UncompressedSizeInBytes, AllNull, AllNonNull}
use Rattle.vortex_base.specs.declared.dtype.DType.{DType}
use Rattle.vortex_base.specs.declared.dtype.DType.TheVariants as dtype
use Rattle.vortex_base.specs.declared.types.Nullability.TheVariants.{Nullable}
use Rattle.vortex_base.specs.declared.types.PType.TheVariants as ptype
use Rattle.vortex_base.specs.declared.pvalue.PValue.TheVariants as number
use Rattle.vortex_base.specs.declared.scalar_value.ScalarValue.{ScalarValue}
use Rattle.vortex_base.specs.declared.scalar_value.ScalarValue.TheVariants as value
use Rattle.vortex_rewrite.specs.Facts.{IsFact}
use Rattle.vortex_stats.proofs.Measuring.MeasuredTruth.{greatest_claims, least_claims}
use Rattle.vortex_stats.specs.Sets.Claims.{NoneAbove, NoneBelow, count_value}
use Rattle.vortex_stats.specs.Sets.Entries.{entry_value}
use Rattle.vortex_stats.specs.declared.precision.Precision.{Precision}
use Rattle.vortex_stats.specs.declared.precision.Precision.TheVariants.{Exact, Inexact, Absent}
use Rattle.vortex_stats.specs.declared.stat.Stat.TheVariants as stats
use Rattle.vortex_prune.proofs.ZoneMaps.ZoneRows.{cell_is}
use Rattle.vortex_zone_map.specs.StatValues.{all_null_value, count_of, null_count_value, of_count}
use Rattle.vortex_zone_map.specs.GivenTables.{is_table, map_with}
use Rattle.vortex_zone_map.specs.Zone.{Entries, ZoneData}
use Rattle.vortex_prune.specs.Scanning.TrueRows.{IsTrueRow, value_in}
use Rattle.vortex_zone_map.specs.ZoneMaps.{StatColumn, IsMapOf, MapData, head, heads, set_value}
use mathlib.Core.Bool.{true≢false}

abbrev i64_type : DType
i64_type = dtype.Primitive ptype.I64 Nullable

abbrev num : ℕ → Option ScalarValue
num n = Some (value.Primitive (number.I64 (pos n)))

abbrev column : DType → Option ScalarValue → ColumnData
column t v = record { dtype = t; values = v ∷ []; size = 0 }

abbrev scope : List Named
scope = (codes "a", i64_type) ∷ []

-- a footer of one zone of n rows, which tells the greatest value, the least, how many are null, and whether all are
abbrev footer : (rows : ℕ) (greatest least nulls all_null : Option ScalarValue) → MapData
footer n greatest least nulls all_null =
    map_with scope (n ∷ [])
    (column i64_type greatest ∷ column i64_type least ∷ column i64_type None ∷ column (dtype.Primitive ptype.U64 Nullable) nulls ∷ column (dtype.Primitive ptype.U64 Nullable) None ∷
    column (dtype.Bool Nullable) all_null ∷ column (dtype.Bool Nullable) None ∷ [])

-- as files keep it: whether all are null is left open
abbrev pub kept : MapData
kept = footer 3 (num 10) (num 1) (Some (count_value 1)) None

kept_is_table : is_table 1 scope kept.table.columns ≡ true
kept_is_table = refl

-- the rows 1, null, 10
abbrev pub rows : ChunkData
rows = record { scope = scope; columns = record { dtype = i64_type; values = num 1 ∷ None ∷ num 10 ∷ []; size = 0 } ∷ [] }

abbrev values : List (Option ScalarValue)
values = num 1 ∷ None ∷ num 10 ∷ []

none_above : NoneAbove (value.Primitive (number.I64 (pos 10))) values
none_above = (greatest_claims values (value.Primitive (number.I64 (pos 10))) refl).1

none_below : NoneBelow (value.Primitive (number.I64 (pos 1))) values
none_below = (least_claims values (value.Primitive (number.I64 (pos 1))) refl).1

-- what is a fact below one head is a fact below the head at its place, and of the column that it tells of
module _ (m : MapData) (i : ℕ) (own : StatColumn) (here : ColumnData) (of : slice_get rows.columns own.source ≡ Some here) (fact : IsFact own.aggregate (value_in m 0 i) here.values (Some here.size)) where
  below : (h : StatColumn) (c : ColumnData) → Some own ≡ Some h → slice_get rows.columns h.source ≡ Some c → IsFact h.aggregate (value_in m 0 i) c.values (Some c.size)
  below h c at there =
      let same : own ≡ h = same_Some own h at in
      let one : here ≡ c = same_Some here c (sym of ∙ ap (λ (x : StatColumn). slice_get rows.columns x.source) same ∙ there) in
      subst (λ (x : StatColumn). IsFact x.aggregate (value_in m 0 i) c.values (Some c.size)) same (subst (λ (x : ColumnData). IsFact own.aggregate (value_in m 0 i) x.values (Some x.size)) one fact)

abbrev a : ColumnData
a = record { dtype = i64_type; values = values; size = 0 }

abbrev head_of : AggregateFnRef → StatColumn
head_of f = head 0 (codes "a", i64_type) f

kept_facts : (i : ℕ) (h : StatColumn) (c : ColumnData) → slice_get (heads scope) i ≡ Some h → slice_get rows.columns h.source ≡ Some c → IsFact h.aggregate (value_in kept 0 i) c.values (Some c.size)
kept_facts zero h c at there = below kept 0 (head_of Max) a refl none_above h c at there
kept_facts (suc zero) h c at there = below kept 1 (head_of Min) a refl none_below h c at there
kept_facts (suc (suc zero)) h c at there = below kept 2 (head_of Sum) a refl tt h c at there
kept_facts (suc (suc (suc zero))) h c at there = below kept 3 (head_of NullCount) a refl refl h c at there
kept_facts (suc (suc (suc (suc zero)))) h c at there = below kept 4 (head_of UncompressedSizeInBytes) a refl tt h c at there
kept_facts (suc (suc (suc (suc (suc zero))))) h c at there = below kept 5 (head_of AllNull) a refl tt h c at there
kept_facts (suc (suc (suc (suc (suc (suc zero)))))) h c at there = below kept 6 (head_of AllNonNull) a refl tt h c at there
kept_facts (suc (suc (suc (suc (suc (suc (suc i))))))) h c at there = absurd cc

-- its row is true of these rows
pub kept_is_true : IsTrueRow kept 0 rows
kept_is_true = record { is_chunk = refl; scoped = refl; counted = refl; facts = kept_facts }

-- ---- no zones have this table: a set that tells how many are null tells whether all are

module _ (n : ℕ) where
  none_told : (c : Option ℕ) → of_count c (λ k. if k == 0 then Some (count_value 0) else None) ≡ Some (count_value 1) → ⊥
  none_told None h = cc
  none_told (Some k) h = by (k == 0) h
    where
      by : (b : Bool) → (if b then Some (count_value 0) else None) ≡ Some (count_value 1) → ⊥
      by true h = cc
      by false h = cc

  exact_tells : (v : ScalarValue) → v ≡ count_value 1 → all_null_value (Exact v) n ≡ None → ⊥
  exact_tells v is h = let told : all_null_value (Exact (count_value 1)) n ≡ None = ap (λ (w : ScalarValue). all_null_value (Exact w) n) (sym is) ∙ h in cc

  no_entry : (p : Precision ScalarValue) → null_count_value p ≡ Some (count_value 1) → all_null_value p n ≡ None → ⊥
  no_entry (Exact v) h g = exact_tells v (same_Some v (count_value 1) h) g
  no_entry (Inexact v) h g = none_told (count_of v) h
  no_entry Absent h g = cc

  no_set : (o : Option Entries) → set_value NullCount o n ≡ Some (count_value 1) → set_value AllNull o n ≡ None → ⊥
  no_set None h g = cc
  no_set (Some es) h g = no_entry (entry_value stats.NullCount es) h g

told_by : (i : ℕ) (f : AggregateFnRef) (v : Option ScalarValue) (z : ZoneData) (zs : List ZoneData) → IsMapOf (z ∷ zs) kept → slice_get (heads scope) i ≡ Some (head_of f) → value_in kept 0 i ≡ v → set_value f (slice_get z.stats 0) z.rows ≡ v
told_by i f v z zs of at is =
    sym (cell_is (heads scope) (z ∷ zs) 0 i (head_of f) z at refl) ∙ ap (λ (x : MapData). cell_value (slice_get (row_of 0 x.table.columns) i)) (sym of.same) ∙ is

no_zones : (zones : List ZoneData) → IsMapOf zones kept → ⊥
no_zones [] of = let none : 1 ≡ 0 = ap (λ (x : MapData). length x.rows) of.same in absurd (omega (arith, none))
no_zones (z ∷ zs) of = no_set z.rows (slice_get z.stats 0) (told_by 3 NullCount (Some (count_value 1)) z zs of refl refl) (told_by 5 AllNull None z zs of refl refl)

-- ---- rows that aren't true of them

-- a value below one that is there isn't the greatest
below_the_greatest : IsTrueRow (footer 3 (num 9) None None None) 0 rows → ⊥
below_the_greatest h = true≢false (h.facts 0 (head_of Max) a refl refl (value.Primitive (number.I64 (pos 10))) (2, omega arith, refl))

-- nor is one above another the least
above_the_least : IsTrueRow (footer 3 None (num 2) None None) 0 rows → ⊥
above_the_least h = true≢false (h.facts 1 (head_of Min) a refl refl (value.Primitive (number.I64 (pos 1))) (0, omega arith, refl))

two_nulls : IsTrueRow (footer 3 None None (Some (count_value 2)) None) 0 rows → ⊥
two_nulls h = let same : count_value 2 ≡ count_value 1 = h.facts 3 (head_of NullCount) a refl refl in cc

nulls_alone : IsTrueRow (footer 3 None None None (Some (value.Bool true))) 0 rows → ⊥
nulls_alone h = let same : value.Bool true ≡ value.Bool false = h.facts 5 (head_of AllNull) a refl refl in cc

-- a row of another count
of_two_rows : IsTrueRow (footer 2 None None None None) 0 rows → ⊥
of_two_rows h = let same : 2 ≡ 3 = same_Some 2 3 h.counted in absurd (omega (arith, same))

-- no row stands behind the last
behind_the_last : IsTrueRow kept 1 rows → ⊥
behind_the_last h = let none : None ≡ Some 3 = h.counted in cc

-- the first code of a name, and of the first of some names
abbrev first_code : List ℕ → ℕ
first_code [] = 0
first_code (x ∷ xs) = x

abbrev code_in : List Named → ℕ
code_in [] = 0
code_in (c ∷ cs) = first_code c.0

-- columns of another name
other_name : IsTrueRow kept 0 (record { scope = (codes "b", i64_type) ∷ []; columns = rows.columns }) → ⊥
other_name h = let same : 98 ≡ 97 = ap (λ (ns : List Named). code_in ns) h.scoped in absurd (omega (arith, same))
