use Rattle.vortex_rewrite.proofs.Soundness.SoundRules.{falsifiers_sound}
use Rattle.vortex_rewrite.proofs.laws.falsifiers_are_sound.Goals as goal

pub returns : goal.returns
returns c = falsifiers_sound
