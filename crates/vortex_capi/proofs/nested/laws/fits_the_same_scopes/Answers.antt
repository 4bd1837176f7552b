use Rattle.vortex_capi.proofs.Nesting.Columns.{same_fit}
use Rattle.vortex_capi.proofs.nested.laws.fits_the_same_scopes.Goals as goal

pub returns : goal.returns
returns c = same_fit
