use Rattle.std.proofs.Common.{◌∙◌}
use Rattle.vortex_parquet.proofs.Texts.{text_here, text_none}
use Rattle.vortex_parquet.proofs.stats.text_value.Goals as goal

pub returns-in_ok-text-in-Ok : goal.returns-in_ok-text-in-Ok
returns-in_ok-text-in-Ok c = let h = c.in-Ok.ensures.cases in text_here c.args.bytes.now c.new.result h.1 (c.new.ensures ∙ (c.in_ok-text-in-Ok.ensures.ok ∙ h.0))

pub returns-in-Err : goal.returns-in-Err
returns-in-Err c = text_none c.args.bytes.now c.in-Err.ensures.cases.0
