use Rattle.std.proofs.Common.{◌++◌, ap, ◌∙◌}
use Rattle.vortex_capi.specs.Encoding.{bytes_of}
use Rattle.vortex_capi.proofs.slots.Slots.push_known.Goals as goal

pub returns : goal.returns
returns c = λ slots are. c.close.ensures slots (bytes_of c.args.value.now) (record { known = are.known; ends = are.ends; values = c.in_ok-push_value.ensures ∙ ap (λ l. l ++ bytes_of c.args.value.now) are.values })
