use Rattle.std.proofs.Common.{refl}
use Rattle.vortex_text.proofs.PageLemmas.{cut_longer, on_err}
use Rattle.vortex_text.proofs.page.Page.put_number.Goals as goal

pub returns-in_err-make_room-clause-cut : goal.returns-in_err-make_room-clause-cut
returns-in_err-make_room-clause-cut g c = on_err _ (cut_longer _ _ _ _ _ _ c.in_err-make_room.ensures.cut refl)
