use Rattle.std.proofs.Common.{not, sym, arith}
use Rattle.vortex_syntax.proofs.StopLemmas.{found_in_sixteen, passed_sixteen}
use Rattle.vortex_syntax.specs.Plain.{is_text_byte}
use Rattle.vortex_syntax.proofs.plain.text_end.Goals as goal

pub returns-then-stops-ne0 : goal.returns-then-stops-ne0
returns-then-stops-ne0 c =
    sym (found_in_sixteen (λ b. not (is_text_byte b)) c.args.text.now c.loop-passed.passed _ (omega arith) c.loop-passed.invariant.1 c.text_stops-stops.ensures (omega arith))

pub loop-passed-preserved : goal.loop-passed-preserved
loop-passed-preserved c =
    (omega arith, passed_sixteen (λ b. not (is_text_byte b)) c.args.text.now c.loop-passed.passed _ (omega arith) c.loop-passed.invariant.1 c.text_stops-stops.ensures (omega arith))
