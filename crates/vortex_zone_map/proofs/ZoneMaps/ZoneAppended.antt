-- Maps of zones that are appended.
use Rattle.std.proofs.Common.{◌≡◌, ◌+◌, ◌++◌, ◌^◌, ◌==◌, ℕ, zero, suc, nat_lt, Bool, true, List, [], ◌∷◌, arith, length, map, refl, subst, sym, ap, ap₂, ◌∙◌}
use Rattle.std.specs.List.{list_all}
use Rattle.std.proofs.lemmas.List.{length-append, map-append}
use Rattle.vortex_base.proofs.Data.ChunkLemmas.{equal_numbers}
use Rattle.vortex_base.specs.Data.Columns.{ChunkData, ColumnData, IsChunk, all_appended, appended_chunk, emptied, emptied_chunk, row_count as rows_of, sizes_fit}
use Rattle.vortex_base.specs.Data.Exact.{both_hold, both_true}
use Rattle.vortex_base.specs.Data.Scopes.{Named}
use Rattle.vortex_zone_map.proofs.ZoneLemmas.{scope_long}
use Rattle.vortex_zone_map.specs.Zone.{AreZonesOf, ZoneData}
use Rattle.vortex_zone_map.specs.ZoneMaps.{StatColumn, IsMap, IsMapOf, MapData, appended_map, emptied_map, heads, zone_column, zone_map, zone_table}

-- ---- declared sizes

abbrev is_sizeless : ColumnData → Bool
is_sizeless c = c.size == 0

no_sizes_fit : (a b : ℕ) → a ≡ 0 → b ≡ 0 → nat_lt (a + b) (2 ^ 64) ≡ true
no_sizes_fit a b p q = ap (λ n. nat_lt (n + b) (2 ^ 64)) p ∙ ap (λ n. nat_lt (0 + n) (2 ^ 64)) q

pub sizeless_fit : (cs ds : List ColumnData) → list_all is_sizeless cs ≡ true → list_all is_sizeless ds ≡ true → sizes_fit cs ds ≡ true
sizeless_fit [] ds h k = refl
sizeless_fit (c ∷ cs) [] h k = refl
sizeless_fit (c ∷ cs) (d ∷ ds) h k =
    both_hold _ _ (no_sizes_fit c.size d.size (equal_numbers c.size 0 (both_true _ _ h).0) (equal_numbers d.size 0 (both_true _ _ k).0)) (sizeless_fit cs ds (both_true _ _ h).1 (both_true _ _ k).1)

no_size : (a b : ℕ) → a ≡ 0 → b ≡ 0 → (a + b == 0) ≡ true
no_size a b p q = ap (λ n. n + b == 0) p ∙ ap (λ n. 0 + n == 0) q

sizeless_appended : (cs ds : List ColumnData) → list_all is_sizeless cs ≡ true → list_all is_sizeless ds ≡ true → list_all is_sizeless (all_appended cs ds) ≡ true
sizeless_appended [] ds h k = refl
sizeless_appended (c ∷ cs) [] h k = h
sizeless_appended (c ∷ cs) (d ∷ ds) h k =
    both_hold _ _ (no_size c.size d.size (equal_numbers c.size 0 (both_true _ _ h).0) (equal_numbers d.size 0 (both_true _ _ k).0)) (sizeless_appended cs ds (both_true _ _ h).1 (both_true _ _ k).1)

sizeless_emptied : (cs : List ColumnData) → list_all is_sizeless (map emptied cs) ≡ true
sizeless_emptied [] = refl
sizeless_emptied (c ∷ cs) = sizeless_emptied cs

-- ---- rows

rows_appended : (cs ds : List ColumnData) → length cs ≡ length ds → rows_of (all_appended cs ds) ≡ rows_of cs + rows_of ds
rows_appended [] [] h = refl
rows_appended [] (d ∷ ds) h = absurd (omega (arith, h))
rows_appended (c ∷ cs) [] h = absurd (omega (arith, h))
rows_appended (c ∷ cs) (d ∷ ds) h = length-append c.values d.values

rows_emptied : (cs : List ColumnData) → rows_of (map emptied cs) ≡ 0
rows_emptied [] = refl
rows_emptied (c ∷ cs) = refl

-- ---- what a map keeps

pub appended_is_kept : (m k : MapData) (a b : List ℕ) → IsChunk m.table → IsChunk k.table → m.scope ≡ k.scope → IsMap m a → IsMap k b → IsMap (appended_map m k) a
appended_is_kept m k a b is also same h g =
    let scopes : m.table.scope ≡ k.table.scope = h.named ∙ ap (λ s. map (λ (x : StatColumn). (x.name, x.dtype)) (heads s)) same ∙ sym g.named in
    let long : length m.table.columns ≡ length k.table.columns = sym (scope_long m.table is) ∙ ap length scopes ∙ scope_long k.table also in
    record {
      named = h.named;
      counted = length-append m.rows k.rows ∙ ap₂ (λ x y. x + y) h.counted g.counted ∙ sym (rows_appended m.table.columns k.table.columns long);
      sizeless = sizeless_appended m.table.columns k.table.columns h.sizeless g.sizeless;
      started = h.started;
    }

pub emptied_is_kept : (m : MapData) (a : List ℕ) → IsMap m a → IsMap (emptied_map m) a
emptied_is_kept m a h = record {
  named = h.named;
  counted = sym (rows_emptied m.table.columns);
  sizeless = sizeless_emptied m.table.columns;
  started = h.started;
}

-- ---- of which zones it is

columns_appended : (zones more : List ZoneData) (hs : List StatColumn) → all_appended (map (zone_column zones) hs) (map (zone_column more) hs) ≡ map (zone_column (zones ++ more)) hs
columns_appended zones more [] = refl
columns_appended zones more (h ∷ hs) =
    ap₂ (λ (vs : List _) (cs : List ColumnData). record { dtype = h.dtype; values = vs; size = 0 } ∷ cs) (sym (map-append _ zones more)) (columns_appended zones more hs)

maps_appended : (scope : List Named) (zones more : List ZoneData) → appended_map (zone_map scope zones) (zone_map scope more) ≡ zone_map scope (zones ++ more)
maps_appended scope zones more =
    ap₂ (λ (rs : List ℕ) (cs : List ColumnData). record { scope = scope; rows = rs; table = record { scope = (zone_table scope zones).scope; columns = cs } }) (sym (map-append _ zones more)) (columns_appended zones more (heads scope))

zones_appended : (scope : List Named) (zones more : List ZoneData) → AreZonesOf scope zones → AreZonesOf scope more → AreZonesOf scope (zones ++ more)
zones_appended scope [] more h g i zone e = g i zone e
zones_appended scope (z ∷ zones) more h g zero zone e = h 0 zone e
zones_appended scope (z ∷ zones) more h g (suc i) zone e = zones_appended scope zones more (λ j x p. h (suc j) x p) g i zone e

pub appended_is_of : (m k n : MapData) (zones more : List ZoneData) → m.scope ≡ k.scope → n ≡ appended_map m k → IsMapOf zones m → IsMapOf more k → IsMapOf (zones ++ more) n
appended_is_of m k n zones more same is h g =
    let scope : n.scope ≡ m.scope = ap (λ (x : MapData). x.scope) is in
    let whole : appended_map m k ≡ zone_map m.scope (zones ++ more) =
    ap₂ appended_map h.same (g.same ∙ ap (λ s. zone_map s more) (sym same)) ∙ maps_appended m.scope zones more in
    record {
      are_zones = subst (λ (s : List Named). AreZonesOf s (zones ++ more)) (sym scope) (zones_appended m.scope zones more h.are_zones (subst (λ (s : List Named). AreZonesOf s more) (sym same) g.are_zones));
      same = is ∙ whole ∙ ap (λ s. zone_map s (zones ++ more)) (sym scope);
    }

pub appended_again : (m k : MapData) (rows : List ℕ) (table : ChunkData) → rows ≡ m.rows ++ k.rows → table ≡ appended_chunk m.table k.table → record { scope = m.scope; rows = rows; table = table } ≡ appended_map m k
appended_again m k rows table is also = ap₂ (λ (rs : List ℕ) (t : ChunkData). record { scope = m.scope; rows = rs; table = t }) is also

pub emptied_again : (m : MapData) (rows : List ℕ) (table : ChunkData) → rows ≡ [] → table ≡ emptied_chunk m.table → record { scope = m.scope; rows = rows; table = table } ≡ emptied_map m
emptied_again m rows table is also = ap₂ (λ (rs : List ℕ) (t : ChunkData). record { scope = m.scope; rows = rs; table = t }) is also
