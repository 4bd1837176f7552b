use Rattle.std.proofs.Common.{◌≡◌, List, subst, sym, ◌∙◌}
use Rattle.std.specs.Prelude.{Some, slice_get}
use Rattle.vortex_zone_map.proofs.ZoneMaps.ZoneNames.{all_tell}
use Rattle.vortex_zone_map.specs.ZoneMaps.{StatColumn}
use Rattle.vortex_zone_map.specs.Logs.{zones_from}
use Rattle.vortex_zone_map.specs.Tables.{AreCells}
use Rattle.vortex_zone_map.proofs.builder.ZoneMapBuilder.map.Goals as goal

pub columns_of-requires : goal.columns_of-requires
columns_of-requires c =
    let zones = zones_from c.args.from c.args.count c.args.self.now.zones in
    let same = c.deref-2.ensures.value ∙ c.in_ok-heads.ensures in
    record {
      zones = zones;
      tells = λ k h at. all_tell c.args.scope zones c.requires.fits k h (subst (λ (hs : List StatColumn). slice_get hs k ≡ Some h) same at);
      cells = subst (λ (hs : List StatColumn). AreCells hs zones c.in_ok-cells.cells.items) (c.deref.ensures.value ∙ sym c.deref-2.ensures.value) c.in_ok-cells.ensures;
    }
