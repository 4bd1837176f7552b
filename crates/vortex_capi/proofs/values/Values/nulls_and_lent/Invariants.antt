use Rattle.vortex_base.specs.Data.ArrayData.{value_of}
use Rattle.vortex_capi.specs.Values.{cell}
use Rattle.vortex_capi.specs.Extents.{HasRead}
use Rattle.vortex_capi.proofs.values.Values.nulls_and_lent.Given as goal

abbrev pub invariant-loop-row : goal.invariant-loop-row
invariant-loop-row l =
    HasRead value_of l.fn.dtype (cell l.fn.dtype l.self.values.now l.self.start l.self.ends.now l.self.nulls.now) l.row l.nulls l.range
