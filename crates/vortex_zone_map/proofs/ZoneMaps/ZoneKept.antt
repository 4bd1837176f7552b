-- What a map of zones keeps.
use Rattle.std.proofs.Common.{◌≡◌, ℕ, zero, suc, Bool, true, false, not, List, [], ◌∷◌, length, map, refl, subst, sym, ap, ◌∙◌}
use Rattle.std.specs.List.{list_all}
use Rattle.std.specs.Prelude.{◌==◌}
use Rattle.std.proofs.lemmas.List.{length-map}
use Rattle.std.proofs.lemmas.Option.{same_Some}
use Rattle.vortex_base.specs.Data.Columns.{ChunkData, IsChunk, row_count as rows_of}
use Rattle.vortex_base.specs.Data.Exact.{both_true}
use Rattle.vortex_base.specs.Data.Scopes.{Named, is_empty}
use Rattle.vortex_zone_map.specs.Zone.{AreZonesOf, IsZone, ZoneData, zones_fit}
use Rattle.vortex_zone_map.specs.ZoneMaps.{StatColumn, IsMap, IsMapOf, MapData, heads, named_head, starts_from, zone_column, zone_map, zone_table}

rows_if : (zones : List ZoneData) (hs : List StatColumn) → is_empty (map named_head hs) ≡ false → rows_of (map (zone_column zones) hs) ≡ length zones
rows_if zones [] h = absurd cc
rows_if zones (x ∷ hs) h = length-map zones _

not_false : (b : Bool) → not b ≡ true → b ≡ false
not_false true h = cc
not_false false h = refl

table_rows : (scope : List Named) (zones : List ZoneData) (table : ChunkData) → IsChunk table → table ≡ zone_table scope zones → rows_of table.columns ≡ length zones
table_rows scope zones table is same =
    let some = not_false (is_empty table.scope) (both_true _ _ (both_true _ _ is).0).0 in
    ap (λ (k : ChunkData). rows_of k.columns) same ∙ rows_if zones (heads scope) (sym (ap (λ (k : ChunkData). is_empty k.scope) same) ∙ some)

table_sizeless : (zones : List ZoneData) (hs : List StatColumn) → list_all (λ c. c.size == 0) (map (zone_column zones) hs) ≡ true
table_sizeless zones [] = refl
table_sizeless zones (h ∷ hs) = table_sizeless zones hs

pub map_is_kept : (scope : List Named) (zones : List ZoneData) (rows starts : List ℕ) (table : ChunkData) → IsChunk table → table ≡ zone_table scope zones → rows ≡ map (λ (z : ZoneData). z.rows) zones → starts ≡ starts_from 0 scope
    → IsMap (record { scope = scope; rows = rows; table = table }) starts
map_is_kept scope zones rows starts table is same counted started = record {
  named = ap (λ (k : ChunkData). k.scope) same;
  counted = ap length counted ∙ length-map zones (λ (z : ZoneData). z.rows) ∙ sym (table_rows scope zones table is same);
  sizeless = ap (λ (k : ChunkData). list_all (λ c. c.size == 0) k.columns) same ∙ table_sizeless zones (heads scope);
  started = started;
}

pub zones_are : (scope : List Named) (zones : List ZoneData) → zones_fit scope zones ≡ true → AreZonesOf scope zones
zones_are scope [] h i zone e = absurd cc
zones_are scope (z ∷ zones) h zero zone e = subst (IsZone scope) (same_Some z zone e) (both_true _ _ h).0
zones_are scope (z ∷ zones) h (suc i) zone e = zones_are scope zones (both_true _ _ h).1 i zone e

pub map_is_of : (m : MapData) (scope : List Named) (zones : List ZoneData) → AreZonesOf scope zones → m ≡ zone_map scope zones → IsMapOf zones m
map_is_of m scope zones are is =
    let same : m.scope ≡ scope = ap (λ (x : MapData). x.scope) is in
    record {
      are_zones = subst (λ (s : List Named). AreZonesOf s zones) (sym same) are;
      same = is ∙ ap (λ s. zone_map s zones) (sym same);
    }
