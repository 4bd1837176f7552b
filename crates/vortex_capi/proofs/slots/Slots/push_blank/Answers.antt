use Rattle.std.proofs.Common.{◌++◌, ap, ◌∙◌}
use Rattle.vortex_capi.specs.Slots.{zeros}
use Rattle.vortex_capi.proofs.slots.Slots.push_blank.Goals as goal

pub returns : goal.returns
returns c = λ slots are. c.close.ensures slots (zeros c.args.len) (record { known = are.known; ends = are.ends; values = c.in_ok-push_zeros.ensures ∙ ap (λ l. l ++ zeros c.args.len) are.values })
