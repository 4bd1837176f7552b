use Rattle.vortex_logical.proofs.Dividing.{cut_ordered}
use Rattle.vortex_logical.proofs.laws.cuts_keep_order.Goals as goal

pub returns : goal.returns
returns c = cut_ordered
