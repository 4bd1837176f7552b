use Rattle.std.proofs.Common.{[], refl, inl, inr, ap}
use Rattle.vortex_text.proofs.Refusals.{cut_once, reply_cut_once, stops_at_word, stops_cut, stops_once, stops_too_long, too_long, too_long_once, word_once}
use Rattle.vortex_text.specs.Replies.{said}
use Rattle.vortex_text.proofs.program.run.Goals as goal

pub returns-in-Err-Memory-clause-refused : goal.returns-in-Err-Memory-clause-refused
returns-in-Err-Memory-clause-refused g c = λ _. stops_at_word _ _ _ _ _ _ (λ input. inl refl) c.refuse.ensures.written

pub returns-in-Err-Memory-clause-some_refused : goal.returns-in-Err-Memory-clause-some_refused
returns-in-Err-Memory-clause-some_refused g c = λ _. ([], inr (inl (_, inl refl, c.refuse.ensures.written)))

pub returns-in-Err-Failed-clause-refused : goal.returns-in-Err-Failed-clause-refused
returns-in-Err-Failed-clause-refused g c =
    λ _. stops_at_word _ _ _ _ _ _ (λ input. inr (inl (c.read_all.ensures.failed (rw (c.in-Err-Failed.is, c.in-Err-Failed.field-0-is) refl), refl))) c.refuse-in-Err-Failed.ensures.written

pub returns-in-Err-Failed-clause-some_refused : goal.returns-in-Err-Failed-clause-some_refused
returns-in-Err-Failed-clause-some_refused g c =
    λ _. ([], inr (inl (_, inr (inl (c.read_all.ensures.failed (rw (c.in-Err-Failed.is, c.in-Err-Failed.field-0-is) refl), refl)), c.refuse-in-Err-Failed.ensures.written)))

pub returns-in-Err-TooLong-clause-refused : goal.returns-in-Err-TooLong-clause-refused
returns-in-Err-TooLong-clause-refused g c =
    λ _. stops_too_long _ _ _ _ _ _ (λ input long. inr (inr (long, refl))) (c.read_all.ensures.too_long (rw (c.in-Err-TooLong.is, c.in-Err-TooLong.field-0-is) refl)) c.refuse-in-Err-TooLong.ensures.written

pub returns-in-Err-TooLong-clause-some_refused : goal.returns-in-Err-TooLong-clause-some_refused
returns-in-Err-TooLong-clause-some_refused g c =
    λ _. (too_long.0, inr (inl (_, inr (inr (too_long.1, refl)), c.refuse-in-Err-TooLong.ensures.written)))

pub returns-in_default-clause-refused : goal.returns-in_default-clause-refused
returns-in_default-clause-refused g c = λ _. stops_at_word _ _ _ _ _ _ (λ input. inl refl) c.refuse-in_default.ensures.written

pub returns-in_default-clause-some_refused : goal.returns-in_default-clause-some_refused
returns-in_default-clause-some_refused g c = λ _. ([], inr (inl (_, inl refl, c.refuse-in_default.ensures.written)))

pub returns-in-None-clause-refused : goal.returns-in-None-clause-refused
returns-in-None-clause-refused g c =
    let (text, is) = c.in-Ok.ensures.whole in
    let (may, cut) = c.in-None.ensures.cut in
    λ _. stops_cut _ _ _ _ _ text (said c.in-Ok-reply_to.reply).1 is.whole (ap (λ r. r.1) (c.in-Ok-reply_to.ensures.said text is.pushed)) may cut

pub returns-in-Err-Memory-clause-writes : goal.returns-in-Err-Memory-clause-writes
returns-in-Err-Memory-clause-writes g c = stops_once _ _ _ _ _ _ _ _ c.refuse.ensures.status (λ input. inl refl) c.refuse.ensures.cut

pub returns-in-Err-Memory-clause-some_writes : goal.returns-in-Err-Memory-clause-some_writes
returns-in-Err-Memory-clause-some_writes g c = ([], word_once [] _ _ _ _ _ _ _ c.refuse.ensures.status (inl refl) c.refuse.ensures.cut)

pub returns-in-Err-Failed-clause-writes : goal.returns-in-Err-Failed-clause-writes
returns-in-Err-Failed-clause-writes g c =
    stops_once _ _ _ _ _ _ _ _ c.refuse-in-Err-Failed.ensures.status (λ input. inr (inl (c.read_all.ensures.failed (rw (c.in-Err-Failed.is, c.in-Err-Failed.field-0-is) refl), refl))) c.refuse-in-Err-Failed.ensures.cut

pub returns-in-Err-Failed-clause-some_writes : goal.returns-in-Err-Failed-clause-some_writes
returns-in-Err-Failed-clause-some_writes g c =
    ([], word_once [] _ _ _ _ _ _ _ c.refuse-in-Err-Failed.ensures.status (inr (inl (c.read_all.ensures.failed (rw (c.in-Err-Failed.is, c.in-Err-Failed.field-0-is) refl), refl))) c.refuse-in-Err-Failed.ensures.cut)

pub returns-in-Err-TooLong-clause-writes : goal.returns-in-Err-TooLong-clause-writes
returns-in-Err-TooLong-clause-writes g c =
    too_long_once _ _ _ _ _ _ _ _ c.refuse-in-Err-TooLong.ensures.status (λ input long. inr (inr (long, refl))) (c.read_all.ensures.too_long (rw (c.in-Err-TooLong.is, c.in-Err-TooLong.field-0-is) refl)) c.refuse-in-Err-TooLong.ensures.cut

pub returns-in-Err-TooLong-clause-some_writes : goal.returns-in-Err-TooLong-clause-some_writes
returns-in-Err-TooLong-clause-some_writes g c = (too_long.0, word_once _ _ _ _ _ _ _ _ c.refuse-in-Err-TooLong.ensures.status (inr (inr (too_long.1, refl))) c.refuse-in-Err-TooLong.ensures.cut)

pub returns-in_default-clause-writes : goal.returns-in_default-clause-writes
returns-in_default-clause-writes g c = stops_once _ _ _ _ _ _ _ _ c.refuse-in_default.ensures.status (λ input. inl refl) c.refuse-in_default.ensures.cut

pub returns-in_default-clause-some_writes : goal.returns-in_default-clause-some_writes
returns-in_default-clause-some_writes g c = ([], word_once [] _ _ _ _ _ _ _ c.refuse-in_default.ensures.status (inl refl) c.refuse-in_default.ensures.cut)

pub returns-in-None-clause-writes : goal.returns-in-None-clause-writes
returns-in-None-clause-writes g c =
    let (text, is) = c.in-Ok.ensures.whole in
    let (may, cut) = c.in-None.ensures.cut in
    reply_cut_once _ _ _ _ _ _ text (said c.in-Ok-reply_to.reply).1 is.whole (ap (λ r. r.1) (c.in-Ok-reply_to.ensures.said text is.pushed)) cut

pub returns-in-None-clause-some_writes : goal.returns-in-None-clause-some_writes
returns-in-None-clause-some_writes g c =
    let (text, is) = c.in-Ok.ensures.whole in
    let (may, cut) = c.in-None.ensures.cut in
    (text, cut_once text (said c.in-Ok-reply_to.reply).1 _ _ _ _ _ (ap (λ r. r.1) (c.in-Ok-reply_to.ensures.said text is.pushed)) cut)
