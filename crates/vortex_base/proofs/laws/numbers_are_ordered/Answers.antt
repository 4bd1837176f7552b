use Rattle.vortex_base.proofs.Data.OrderLemmas.{pvalue_cmp-total, pvalue_cmp-ties}
use Rattle.vortex_base.proofs.laws.numbers_are_ordered.Goals as goal

pub returns : goal.returns
returns c = (pvalue_cmp-total, pvalue_cmp-ties)
