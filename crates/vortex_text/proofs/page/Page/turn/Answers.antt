use Rattle.std.proofs.Common.{refl}
use Rattle.vortex_text.proofs.PageLemmas.{cut_beside, cut_longer, err_then, ok_then, on_err, passes_beside}
use Rattle.vortex_text.proofs.page.Page.turn.Goals as goal

pub returns-in_err-flush-clause-cut : goal.returns-in_err-flush-clause-cut
returns-in_err-flush-clause-cut g c = on_err _ (cut_longer _ _ _ _ _ _ c.in_err-flush.ensures.cut refl)

pub returns-then-bytes-gt-SIZE-clause-put : goal.returns-then-bytes-gt-SIZE-clause-put
returns-then-bytes-gt-SIZE-clause-put g c =
    ok_then c.pass.result (λ more. passes_beside _ _ _ _ _ _ c.in_ok-flush.ensures.written c.in_ok-flush.ensures.empty more) c.pass.ensures.written

pub returns-then-bytes-gt-SIZE-clause-cut : goal.returns-then-bytes-gt-SIZE-clause-cut
returns-then-bytes-gt-SIZE-clause-cut g c = err_then c.pass.result (λ cut. cut_beside _ _ _ _ _ _ c.in_ok-flush.ensures.written cut) c.pass.ensures.cut
