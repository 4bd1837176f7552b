use Rattle.vortex_predicates.proofs.EqualBounds.{one_text_is_told}
use Rattle.vortex_predicates.proofs.laws.one_text_is_told.Goals as goal

pub returns : goal.returns
returns c = one_text_is_told
