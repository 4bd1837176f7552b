use Rattle.vortex_capi.proofs.Nesting.Meanings.{same_meaning}
use Rattle.vortex_capi.proofs.nested.laws.means_the_same.Goals as goal

pub returns : goal.returns
returns c = λ e row n. same_meaning row n e
