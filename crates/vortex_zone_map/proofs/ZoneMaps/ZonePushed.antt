-- Maps of zones that take one more zone.
use Rattle.std.proofs.Common.{◌≡◌, ◌+◌, ◌++◌, ◌==◌, ℕ, zero, suc, Bool, true, false, not, List, [], ◌∷◌, Option, Some, Ok, Err, Result, arith, map, refl, subst, sym, ap, ap₂, ◌∙◌}
use Rattle.std.specs.List.{list_all}
use Rattle.std.specs.Prelude.{alloc_error, if◌then◌else◌, slice_get}
use Rattle.std.proofs.lemmas.List.{length-append}
use Rattle.vortex_base.specs.Answer.{Answers}
use Rattle.vortex_base.specs.Data.Columns.{ChunkData, ColumnData, IsChunk, all_appended, appended, has_types, pushed_chunk, row_count as rows_of, row_fits, with_row, with_value}
use Rattle.vortex_base.specs.Data.Exact.{both_hold, both_true}
use Rattle.vortex_base.specs.Data.Scalars.{is_optional_value}
use Rattle.vortex_base.specs.Data.Scopes.{Named, is_empty}
use Rattle.vortex_base.specs.Data.Types.{dtype_eq_is_exact}
use Rattle.vortex_base.specs.declared.error.BaseError.{BaseError}
use Rattle.vortex_base.specs.declared.error.BaseError.TheVariants.{Memory, Mismatch}
use Rattle.vortex_base.specs.declared.scalar_value.ScalarValue.{ScalarValue}
use Rattle.vortex_zone_map.proofs.ZoneMaps.ZoneAppended.{appended_is_of}
use Rattle.vortex_zone_map.proofs.ZoneMaps.ZoneNames.{all_tell, values_fit}
use Rattle.vortex_zone_map.specs.Zone.{AreZonesOf, IsZone, ZoneData}
use Rattle.vortex_zone_map.specs.ZoneMaps.{EachTells, StatColumn, IsMap, IsMapOf, MapData, appended_map, heads, named_head, told_of, zone_column, zone_map}

-- a zone alone
alone : (scope : List Named) (zone : ZoneData) → IsZone scope zone → AreZonesOf scope (zone ∷ [])
alone scope zone is zero z e = let same : zone ≡ z = cc in subst (IsZone scope) same is
alone scope zone is (suc i) z e = absurd cc

module _ (zone : ZoneData) where
  -- what it tells may stand in the columns of the table
  told_fits : (hs : List StatColumn) (cs : List ColumnData) → has_types (map named_head hs) cs ≡ true → ((k : ℕ) (h : StatColumn) → slice_get hs k ≡ Some h → EachTells (zone ∷ []) h) → row_fits cs (map (told_of zone) hs) ≡ true
  told_fits [] [] typed tells = refl
  told_fits [] (c ∷ cs) typed tells = cc
  told_fits (h ∷ hs) [] typed tells = cc
  told_fits (h ∷ hs) (c ∷ cs) typed tells =
      let both = both_true _ _ typed in
      let same : h.dtype ≡ c.dtype = (dtype_eq_is_exact h.dtype c.dtype).0 both.0 in
      let fits = (both_true _ _ (values_fit (zone ∷ []) h (tells 0 h refl))).0 in
      both_hold _ _ (ap (is_optional_value (told_of zone h)) (sym same) ∙ fits) (told_fits hs cs both.1 (λ k x e. tells (suc k) x e))

  no_more : (c : ColumnData) (h : StatColumn) → with_value c (told_of zone h) ≡ appended c (zone_column (zone ∷ []) h)
  no_more c h = let none : c.size ≡ c.size + 0 = omega arith in ap (λ n. record { dtype = c.dtype; values = c.values ++ told_of zone h ∷ []; size = n }) none

  -- its row is the table of this zone alone
  row_is_table : (hs : List StatColumn) (cs : List ColumnData) → with_row cs (map (told_of zone) hs) ≡ all_appended cs (map (zone_column (zone ∷ [])) hs)
  row_is_table [] [] = refl
  row_is_table [] (c ∷ cs) = refl
  row_is_table (h ∷ hs) [] = refl
  row_is_table (h ∷ hs) (c ∷ cs) = ap₂ (λ d ds. d ∷ ds) (no_more c h) (row_is_table hs cs)

  sizeless_pushed : (cs : List ColumnData) (vs : List (Option ScalarValue)) → list_all (λ c. c.size == 0) cs ≡ true → list_all (λ c. c.size == 0) (with_row cs vs) ≡ true
  sizeless_pushed [] [] h = h
  sizeless_pushed [] (v ∷ vs) h = h
  sizeless_pushed (c ∷ cs) [] h = h
  sizeless_pushed (c ∷ cs) (v ∷ vs) h = let both = both_true _ _ h in both_hold _ _ both.0 (sizeless_pushed cs vs both.1)

  one_more : (hs : List StatColumn) (cs : List ColumnData) → is_empty (map named_head hs) ≡ false → has_types (map named_head hs) cs ≡ true → rows_of (with_row cs (map (told_of zone) hs)) ≡ rows_of cs + 1
  one_more [] cs some typed = absurd cc
  one_more (h ∷ hs) [] some typed = cc
  one_more (h ∷ hs) (c ∷ cs) some typed = length-append c.values (told_of zone h ∷ [])

  not_false : (b : Bool) → not b ≡ true → b ≡ false
  not_false true h = cc
  not_false false h = refl

  -- the map with one more zone
  abbrev pub pushed_map : MapData → MapData
  pushed_map m = record {
    scope = m.scope;
    rows = m.rows ++ zone.rows ∷ [];
    table = record { scope = m.table.scope; columns = with_row m.table.columns (map (told_of zone) (heads m.scope)) };
  }

  -- the same, as its fields are changed
  pub pushed_again : (m : MapData) (rows : List ℕ) (table : ChunkData) (values : List (Option ScalarValue)) → rows ≡ m.rows ++ zone.rows ∷ [] → values ≡ map (told_of zone) (heads m.scope)
      → table ≡ record { scope = m.table.scope; columns = with_row m.table.columns values } → record { scope = m.scope; rows = rows; table = table } ≡ pushed_map m
  pushed_again m rows table values is told also =
      ap₂ (λ (rs : List ℕ) (t : ChunkData). record { scope = m.scope; rows = rs; table = t }) is
      (also ∙ ap (λ (vs : List (Option ScalarValue)). record { scope = m.table.scope; columns = with_row m.table.columns vs }) told)

  module _ (m : MapData) (starts : List ℕ) (is : IsChunk m.table) (map_is : IsMap m starts) (fits : IsZone m.scope zone) where
    typed : has_types (map named_head (heads m.scope)) m.table.columns ≡ true
    typed = ap (λ (ns : List Named). has_types ns m.table.columns) (sym map_is.named) ∙ (both_true _ _ (both_true _ _ (both_true _ _ is).1).1).0

    pub row_fits_table : row_fits m.table.columns (map (told_of zone) (heads m.scope)) ≡ true
    row_fits_table = told_fits (heads m.scope) m.table.columns typed (all_tell m.scope (zone ∷ []) (alone m.scope zone fits))

    pub pushed_is_kept : IsMap (pushed_map m) starts
    pushed_is_kept =
        let some = not_false (is_empty m.table.scope) (both_true _ _ (both_true _ _ is).0).0 in
        record {
          named = map_is.named;
          counted = length-append m.rows (zone.rows ∷ []) ∙ ap (λ n. n + 1) map_is.counted ∙ sym (one_more (heads m.scope) m.table.columns (sym (ap is_empty map_is.named) ∙ some) typed);
          sizeless = sizeless_pushed m.table.columns (map (told_of zone) (heads m.scope)) map_is.sizeless;
          started = map_is.started;
        }

  -- so it is the map with that of this zone behind it
  pub pushed_is_appended : (m : MapData) → pushed_map m ≡ appended_map m (zone_map m.scope (zone ∷ []))
  pushed_is_appended m =
      ap (λ (cs : List ColumnData). record { scope = m.scope; rows = m.rows ++ zone.rows ∷ []; table = record { scope = m.table.scope; columns = cs } }) (row_is_table (heads m.scope) m.table.columns)

  -- and so the map of the zones and this one
  pub pushed_is_of : (m n : MapData) (known : List ZoneData) → IsZone m.scope zone → n ≡ appended_map m (zone_map m.scope (zone ∷ [])) → IsMapOf known m → IsMapOf (known ++ zone ∷ []) n
  pushed_is_of m n known fits is h = appended_is_of m (zone_map m.scope (zone ∷ [])) n known (zone ∷ []) refl is h (record { are_zones = alone m.scope zone fits; same = refl })

abbrev ok_chunk : ChunkData → Result ChunkData BaseError
ok_chunk k = Ok k

abbrev err_unit : BaseError → Result (Unit {0}) BaseError
err_unit f = Err f

taken : (b : Bool) (k l : ChunkData) → b ≡ true → (if b then ok_chunk k else Err Mismatch) ≡ Ok l → l ≡ k
taken true k l h e = cc
taken false k l h e = cc

-- the table with the row that fits
pub table_pushed : (k l : ChunkData) (vs : List (Option ScalarValue)) → row_fits k.columns vs ≡ true → pushed_chunk k vs ≡ Ok l → l ≡ record { scope = k.scope; columns = with_row k.columns vs }
table_pushed k l vs fits e = taken (row_fits k.columns vs) (record { scope = k.scope; columns = with_row k.columns vs }) l fits e

-- where the row fits, memory alone was refused
pub memory_alone : (k : ChunkData) (vs : List (Option ScalarValue)) (f : BaseError) → row_fits k.columns vs ≡ true → Answers (pushed_chunk k vs) tt (err_unit f) → f ≡ Memory alloc_error
memory_alone k vs f fits h = by (row_fits k.columns vs) fits h
  where
    by : (b : Bool) → b ≡ true → Answers (if b then ok_chunk (record { scope = k.scope; columns = with_row k.columns vs }) else Err Mismatch) tt (err_unit f) → f ≡ Memory alloc_error
    by true e a = a
    by false e a = cc
