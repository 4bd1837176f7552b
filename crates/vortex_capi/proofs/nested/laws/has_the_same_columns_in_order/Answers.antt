use Rattle.vortex_capi.proofs.Nesting.Apart.{same_columns_of}
use Rattle.vortex_capi.proofs.nested.laws.has_the_same_columns_in_order.Goals as goal

pub returns : goal.returns
returns c = same_columns_of
