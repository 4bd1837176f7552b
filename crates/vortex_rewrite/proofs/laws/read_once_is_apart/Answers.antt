use Rattle.vortex_rewrite.proofs.Completeness.Apart.{read_once_is_apart}
use Rattle.vortex_rewrite.proofs.laws.read_once_is_apart.Goals as goal

pub returns : goal.returns
returns c = read_once_is_apart
