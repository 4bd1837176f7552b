use Rattle.std.proofs.lemmas.List.{map-append}
use Rattle.vortex_capi.specs.Prunes.{answer_by}
use Rattle.vortex_capi.proofs.laws.pieces_answer_alike.Goals as goal

pub returns : goal.returns
returns c = λ f s scope zones more. map-append (answer_by f s scope) zones more
