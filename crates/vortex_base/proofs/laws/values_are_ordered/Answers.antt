use Rattle.vortex_base.proofs.Data.OrderLemmas.{value_cmp-total, value_cmp-ties}
use Rattle.vortex_base.proofs.laws.values_are_ordered.Goals as goal

pub returns : goal.returns
returns c = (value_cmp-total, value_cmp-ties)
