use Rattle.vortex_syntax.proofs.FrontLemmas.{read_eight}
use Rattle.vortex_syntax.proofs.plain.eight_value.Goals as goal

pub returns : goal.returns
returns c = λ digits long all is. read_eight digits c.args.worth long all is
