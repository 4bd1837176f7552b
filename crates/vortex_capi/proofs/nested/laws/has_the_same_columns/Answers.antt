use Rattle.vortex_capi.proofs.Nesting.Columns.{same_columns}
use Rattle.vortex_capi.proofs.nested.laws.has_the_same_columns.Goals as goal

pub returns : goal.returns
returns c = same_columns
