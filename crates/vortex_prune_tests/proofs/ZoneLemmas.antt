-- The zones fit their columns, and the first two may be joined.
use Rattle.std.proofs.Common.{◌≡◌, List, ap, arith, refl, subst, sym}
use Rattle.std.proofs.lemmas.Option.{same_Some}
use Rattle.vortex_base.specs.Data.Scopes.{Named}
use Rattle.vortex_zone_map.proofs.ZoneMaps.ZoneKept.{zones_are}
use Rattle.vortex_zone_map.specs.Zone.{AreZonesOf, ZoneData}
use Rattle.vortex_zone_map.specs.Logs.{MayJoinAt, zones_from}
use Rattle.vortex_prune_tests.specs.Zones.{columns, three, two}

three_fit : AreZonesOf columns three
three_fit = zones_are columns three refl

two_fit : AreZonesOf columns two
two_fit = zones_are columns two refl

pub three_are : (zones : List ZoneData) → zones ≡ three → AreZonesOf columns zones
three_are zones are = subst (AreZonesOf columns) (sym are) three_fit

pub two_are : (zones : List ZoneData) → zones ≡ two → AreZonesOf columns zones
two_are zones are = subst (AreZonesOf columns) (sym are) two_fit

pub last_two_are : (zones : List ZoneData) → zones ≡ three → AreZonesOf columns (zones_from 1 2 zones)
last_two_are zones are = subst (λ (zs : List ZoneData). AreZonesOf columns (zones_from 1 2 zs)) (sym are) (zones_are columns (zones_from 1 2 three) refl)

pub may_join : (scope : List Named) (zones : List ZoneData) → scope ≡ columns → zones ≡ three → MayJoinAt scope 0 zones
may_join scope zones same are =
    subst (λ (s : List Named). MayJoinAt s 0 zones) (sym same)
    (subst (MayJoinAt columns 0) (sym are)
    (λ left right first second.
    let three_rows : 3 ≡ left.rows = ap (λ (z : ZoneData). z.rows) (same_Some _ left first) in
    let four_rows : 4 ≡ right.rows = ap (λ (z : ZoneData). z.rows) (same_Some _ right second) in
    record {
      left_fits = three_fit 0 left first;
      right_fits = three_fit 1 right second;
      rows = omega (arith, three_rows, four_rows);
    }))
