use Rattle.std.proofs.Common.{ap, length, sym, ◌∙◌}
use Rattle.vortex_text.proofs.StoreLemmas.{ranges_long}
use Rattle.vortex_text.proofs.parts.Parts.len.Goals as goal

pub returns : goal.returns
returns c = c.len.ensures ∙ sym (ranges_long c.self.inside.chunk 0 c.self.inside.log.zones) ∙ ap length c.self.view_is
