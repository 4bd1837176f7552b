use Rattle.std.proofs.Common.{◌++◌, [], ◌∷◌, ap, ◌∙◌}
use Rattle.vortex_base.specs.Data.ArrayData.{cell_values}
use Rattle.vortex_zone_map.specs.ZoneMaps.{StatColumn, zone_value}
use Rattle.vortex_zone_map.proofs.ZoneMaps.ZoneTables.{mapped_more}
use Rattle.vortex_zone_map.proofs.zone_map.zone_cells.Goals as goal

pub loop-place-preserved : goal.loop-place-preserved
loop-place-preserved c =
    c.in_ok-push.ensures.pushed
    ∙ ap (λ v. cell_values c.loop-place.cells ++ v ∷ []) (c.in_ok-zone_value.ensures.value ∙ ap (λ (h : StatColumn). zone_value h.aggregate h.source c.index-zones-place.result) c.head.view_is)
    ∙ mapped_more (zone_value c.args.head.now.aggregate c.args.head.now.source) c.args.zones.now c.loop-place.place c.index-zones-place.result (cell_values c.loop-place.cells) c.loop-place-test.true c.index-zones-place.is c.loop-place.invariant
