use Rattle.vortex_syntax.proofs.FrontLemmas.{one_lane}
use Rattle.vortex_syntax.proofs.plain.front_word.Goals as goal

pub returns : goal.returns
returns c = one_lane c.args.text.now c.requires (λ i. (c.type_inv.text i).fits)
