use Rattle.vortex_predicates.proofs.RowGroups.ZoneLoop.{zones_go, zones_done}
use Rattle.vortex_predicates.proofs.row_groups.zones.zones_in.Goals as goal

pub loop-group-preserved : goal.loop-group-preserved
loop-group-preserved c = rw c.in_ok-push.ensures.items (zones_go c.args.groups.now c.loop-group.zones.items c.loop-group.group-index c.group-item.result c.zone_of.result c.loop-group-test.true c.group-item.is c.zone_of.ensures c.loop-group.invariant)

pub returns : goal.returns
returns c = zones_done c.args.groups.now c.loop-group.zones.items c.loop-group.group-index c.loop-group-test.false c.loop-group.invariant
