use Rattle.std.proofs.Common.{◌∙◌}
use Rattle.vortex_capi.specs.Prunes.{zones_asked}
use Rattle.vortex_capi.proofs.SqlCalls.AnswerLemmas.{answered_by}
use Rattle.vortex_capi.proofs.sql.prune_sql.answered.Goals as goal

pub returns-in-Ok : goal.returns-in-Ok
returns-in-Ok c =
    let x = c.args.condition.now in
    answered_by x c.in-Ok.found.items c.copy_from_slice.new.self (record { answers = c.args.answers.now; unread = c.args.unread.now }) c.unread-places.result.now c.put_places.new.spans c.args.len.now c.args.fault.now
    (c.copy_from_slice.ensures.after ∙ c.deref.ensures.value) c.unread-places.ensures c.put_places.ensures (zones_asked x.scope c.args.rows.now c.args.stats.now) c.in-Ok.ensures.read
