use Rattle.vortex_text.proofs.OpenTextLemmas.{bad_found, open_read}
use Rattle.vortex_text.proofs.open_text.State.push.Goals as goal

pub returns-in-Ok-clause-takes : goal.returns-in-Ok-clause-takes
returns-in-Ok-clause-takes c = λ text has. open_read text c.args.bytes.now c.in-Open.line c.in-Ok.line c.in-Ok.ensures.takes (rw c.in-Open.is at has)

pub returns-in-Err-BadLine-clause-takes : goal.returns-in-Err-BadLine-clause-takes
returns-in-Err-BadLine-clause-takes c =
    λ text has. bad_found text c.args.bytes.now c.in-Open.line c.in-Err-BadLine.bad (rw c.in-Err-BadLine.field-0-is at c.in-Err-BadLine.ensures.takes) (rw c.in-Open.is at has)
