use Rattle.vortex_base.specs.Data.ArrayData.{value_of}
use Rattle.vortex_capi.proofs.ExtentLemmas.{column_read}
use Rattle.vortex_capi.proofs.values.Values.lent_extent.Goals as goal

pub returns : goal.returns
returns c = column_read value_of c.args.dtype c.args.self.now c.in_ok-nulls.nulls c.in_ok-nulls.range c.new.result c.in_ok-nulls.ensures c.new.ensures
