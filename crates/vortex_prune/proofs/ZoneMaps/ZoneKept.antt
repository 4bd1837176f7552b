-- What a map of the zones of parts keeps.
use Rattle.std.proofs.Common.{◌≡◌, ℕ, zero, suc, List, [], ◌∷◌, Some, length, refl, subst, sym, ap, ◌∙◌}
use Rattle.std.specs.Prelude.{slice_get}
use Rattle.std.proofs.lemmas.List.{length-map}
use Rattle.std.proofs.lemmas.List.Elements.{recursion_from_All}
use Rattle.std.proofs.lemmas.Option.{same_Some}
use Rattle.vortex_base.specs.Data.Scopes.{Named}
use Rattle.vortex_prune.proofs.Honesty.ZoneLemmas.{part_is_zone}
use Rattle.vortex_prune.proofs.Scanning.WholeScan.{all_at}
use Rattle.vortex_prune.specs.Part.{AreParts, PartData, zone_of}
use Rattle.vortex_zone_map.specs.Zone.{AreZonesOf, IsZone, ZoneData}
use Rattle.vortex_prune.specs.Zones.{AreZones, HaveScope, zones_of}
use Rattle.vortex_zone_map.specs.ZoneMaps.{MapData, zone_map}

-- ---- the table has a row for each zone

-- ---- zones that fit

-- ---- parts and what is known of them

-- their map has as many rows as there are parts
pub map_long : (m : MapData) (scope : List Named) (parts : List PartData) → m ≡ zone_map scope (zones_of parts) → length m.rows ≡ length parts
map_long m scope parts is = ap (λ (x : MapData). length x.rows) is ∙ length-map (zones_of parts) (λ (z : ZoneData). z.rows) ∙ length-map parts zone_of

known_parts : (scope : List Named) (parts : List PartData) → ((i : ℕ) (p : PartData) → slice_get parts i ≡ Some p → IsZone scope (zone_of p)) → AreZonesOf scope (zones_of parts)
known_parts scope [] each i zone e = absurd cc
known_parts scope (p ∷ parts) each zero zone e = subst (IsZone scope) (same_Some (zone_of p) zone e) (each 0 p refl)
known_parts scope (p ∷ parts) each (suc i) zone e = known_parts scope parts (λ j q h. each (suc j) q h) i zone e

pub parts_are_zones : (scope : List Named) (parts : List PartData) → HaveScope scope parts → AreParts parts → AreZonesOf scope (zones_of parts)
parts_are_zones scope parts have are =
    known_parts scope parts (λ i p there.
    subst (λ (s : List Named). IsZone s (zone_of p)) (all_at (λ q. q.chunk.scope ≡ scope) parts i p (recursion_from_All (λ q. q.chunk.scope ≡ scope) parts have) there) (part_is_zone p (are i p there)))

pub zones_are_kept : (scope : List Named) (parts : List PartData) (m : MapData) → HaveScope scope parts → AreParts parts → m ≡ zone_map scope (zones_of parts) → AreZones (record { scope = m.scope; parts = parts }) m
zones_are_kept scope parts m have are is =
    let same : m.scope ≡ scope = ap (λ (x : MapData). x.scope) is in
    record {
      scoped = subst (λ (s : List Named). HaveScope s parts) (sym same) have;
      are_parts = are;
      mapped = is ∙ ap (λ s. zone_map s (zones_of parts)) (sym same);
    }
