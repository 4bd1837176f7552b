use Rattle.vortex_capi.proofs.Nesting.Types.{type_kept}
use Rattle.vortex_capi.proofs.nested.laws.keeps_its_type.Goals as goal

pub returns : goal.returns
returns c = type_kept
