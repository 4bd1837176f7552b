use Rattle.vortex_text.proofs.OpenLineLemmas.{refused_in}
use Rattle.vortex_text.proofs.naming.read_input.Goals as goal

pub returns-clause-named : goal.returns-clause-named
returns-clause-named c = rw c.new.ensures at c.read_last.ensures.named

pub returns-clause-memory : goal.returns-clause-memory
returns-clause-memory c = λ refused. refused_in c.args.text.now (rw c.new.ensures at c.read_last.ensures.memory refused)
