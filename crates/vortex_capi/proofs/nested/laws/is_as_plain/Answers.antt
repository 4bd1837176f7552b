use Rattle.vortex_capi.proofs.Nesting.Columns.{same_plain}
use Rattle.vortex_capi.proofs.nested.laws.is_as_plain.Goals as goal

pub returns : goal.returns
returns c = same_plain
