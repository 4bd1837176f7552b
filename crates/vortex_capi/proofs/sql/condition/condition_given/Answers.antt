use Rattle.vortex_capi.proofs.SqlCalls.AnswerLemmas.{text_told}
use Rattle.vortex_capi.proofs.sql.condition.condition_given.Goals as goal

pub returns-clause-refused : goal.returns-clause-refused
returns-clause-refused c =
    text_told _ c.args.text.now c.in_ok-text.text.now c.args.schema c.in-Err.error c.refusal_of.result c.in_ok-text.ensures.text c.refusal_of.ensures
    c.in-Err.ensures.refused
