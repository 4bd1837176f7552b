use Rattle.std.proofs.Common.{◌∙◌}
use Rattle.vortex_capi.proofs.ExtentLemmas.{text_fits, text_read}
use Rattle.vortex_capi.proofs.encoding.lent_of.Goals as goal

pub returns-in-Ok-clause-read : goal.returns-in-Ok-clause-read
returns-in-Ok-clause-read c =
    let h = c.in-Ok.ensures.cases in
    rw c.in-Utf8.is (text_read c.in-Utf8.field-0 c.args.bytes.now c.new.result.text.now h.1 (c.new.ensures ∙ h.0))

pub returns-in-Ok-clause-fits : goal.returns-in-Ok-clause-fits
returns-in-Ok-clause-fits c =
    let h = c.in-Ok.ensures.cases in
    rw c.in-Utf8.is (text_fits c.in-Utf8.field-0 c.args.bytes.now c.new.result.text.now h.1 (c.new.ensures ∙ h.0))
