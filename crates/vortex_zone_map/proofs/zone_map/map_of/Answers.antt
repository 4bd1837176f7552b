use Rattle.vortex_zone_map.proofs.ZoneMaps.ZoneKept.{map_is_kept}
use Rattle.vortex_zone_map.proofs.zone_map.map_of.Goals as goal

pub invariant_of-result : goal.invariant_of-result
invariant_of-result c =
    map_is_kept c.args.scope c.args.zones.now c.in-Ok.rows.items c.table_of.new.starts.items c.in-Ok-table_of.table c.rows-rows.ensures.is_chunk c.in-Ok-table_of.ensures.table c.in-Ok.ensures c.in-Ok-table_of.ensures.starts
