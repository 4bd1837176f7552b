use Rattle.std.proofs.Common.{ap}
use Rattle.vortex_base.specs.Data.ArrayData.{cell_values}
use Rattle.vortex_zone_map.specs.ZoneMaps.{StatColumn}
use Rattle.vortex_zone_map.proofs.ZoneMaps.ZoneNames.{column_is_made}
use Rattle.vortex_zone_map.proofs.zone_map.zone_column.Goals as goal

pub new_unchecked-requires : goal.new_unchecked-requires
new_unchecked-requires c =
    column_is_made c.args.zones.now c.args.head.now c.head.inside.dtype (cell_values c.in_ok-cells.cells) c.requires (ap (λ (h : StatColumn). h.dtype) c.head.view_is) c.in_ok-cells.ensures.values
