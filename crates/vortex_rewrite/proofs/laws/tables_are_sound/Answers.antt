use Rattle.vortex_rewrite.proofs.Soundness.SoundRules.{comparisons_sound, tables_sound}
use Rattle.vortex_rewrite.proofs.laws.tables_are_sound.Goals as goal

pub returns-clause-comparisons : goal.returns-clause-comparisons
returns-clause-comparisons c = comparisons_sound

pub returns-clause-others : goal.returns-clause-others
returns-clause-others c = tables_sound
