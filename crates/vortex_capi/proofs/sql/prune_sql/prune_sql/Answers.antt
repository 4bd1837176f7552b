use Rattle.std.proofs.Common.{length, refl}
use Rattle.vortex_capi.specs.Prunes.{zones_asked}
use Rattle.vortex_capi.specs.SqlCalls.SqlPrunes.{columns_asked, columns_by}
use Rattle.vortex_capi.proofs.SqlCalls.AnswerLemmas.{call_answered, lack_refused, text_refused}
use Rattle.vortex_capi.proofs.sql.prune_sql.prune_sql.Goals as goal

pub returns-in-Err-condition_given-clause-refused : goal.returns-in-Err-condition_given-clause-refused
returns-in-Err-condition_given-clause-refused c = λ _ four.
    text_refused (columns_asked c.args.scope.now c.args.rows.now c.args.flags (length c.args.answers.now)) (columns_by c.in-Ok.schema c.in-Ok.names) c.args.rows.now c.args.stats.now c.args.text.now (length c.args.unread.now) c.tell.result c.args.len.now c.tell.new.fault
    c.in-Err-condition_given.refusal c.in-Ok.ensures.read c.in-Err-condition_given.ensures.refused c.tell.ensures four

pub returns-in-Ok-condition_given-clause-answered : goal.returns-in-Ok-condition_given-clause-answered
returns-in-Ok-condition_given-clause-answered c = λ zero.
    let x = c.in-Ok-condition_given.condition in
    let h = c.answered.ensures in
    call_answered (columns_by c.in-Ok.schema c.in-Ok.names) c.args.rows.now c.args.stats.now c.args.text.now x c.in-Ok-condition_given.ensures.read (record { answers = c.args.answers.now; unread = c.args.unread.now })
    (record { answers = c.answered.new.answers; unread = c.answered.new.unread }) c.answered.new.len c.args.scope.now c.args.flags c.in-Ok.ensures.read (zones_asked x.scope c.args.rows.now c.args.stats.now) refl (h.given zero) (h.written zero)

pub returns-in-Ok-condition_given-clause-refused : goal.returns-in-Ok-condition_given-clause-refused
returns-in-Ok-condition_given-clause-refused c = λ some four.
    lack_refused (columns_by c.in-Ok.schema c.in-Ok.names) c.args.rows.now c.args.stats.now c.args.text.now c.in-Ok-condition_given.condition c.in-Ok-condition_given.ensures.read
    (columns_asked c.args.scope.now c.args.rows.now c.args.flags (length c.args.answers.now)) (length c.args.unread.now) c.answered.result c.answered.new.len c.answered.new.fault c.in-Ok.ensures.read (c.answered.ensures.lack some four)
