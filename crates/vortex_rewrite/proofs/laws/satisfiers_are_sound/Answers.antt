use Rattle.vortex_rewrite.proofs.Soundness.SoundRules.{satisfiers_sound}
use Rattle.vortex_rewrite.proofs.laws.satisfiers_are_sound.Goals as goal

pub returns : goal.returns
returns c = satisfiers_sound
