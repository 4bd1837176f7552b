use Rattle.vortex_syntax.specs.Words.{words}
use Rattle.vortex_text.proofs.PlainLines.{stat_read}
use Rattle.vortex_text.specs.Drafts.{reading_of}
use Rattle.vortex_text.proofs.document_parser.DocumentParser.read_stat.Goals as goal

pub returns-clause-memory : goal.returns-clause-memory
returns-clause-memory c = λ refused.
    stat_read (reading_of c.args.self.now) (words c.args.line.now) (words c.in_ok-claim.rest.now) c.in_ok-claim.claim.place c.in_ok-claim.claim.stat c.in_ok-claim.claim.dtype c.in_ok-value.value _
    c.in_ok-claim.ensures.claim c.in_ok-value.ensures.value (c.tell.ensures.memory refused)
