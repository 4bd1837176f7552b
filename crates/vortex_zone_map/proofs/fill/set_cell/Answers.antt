use Rattle.std.proofs.Common.{ap}
use Rattle.vortex_base.specs.Data.ArrayData.{cell_values}
use Rattle.vortex_zone_map.proofs.FillLemmas.{null_among}
use Rattle.vortex_zone_map.proofs.fill.set_cell.Goals as goal

pub returns-then-is_none : goal.returns-then-is_none
returns-then-is_none c = null_among (cell_values c.args.cells.now) c.in-Nulls.field-0 c.args.place c.args.value (ap cell_values c.in-Nulls.is) c.if-is_none.ensures
