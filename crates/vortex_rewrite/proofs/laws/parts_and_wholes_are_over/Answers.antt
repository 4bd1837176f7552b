use Rattle.vortex_rewrite.proofs.Rewriting.OverParts.{binary_parts, halves_over, like_text_over}
use Rattle.vortex_rewrite.proofs.Soundness.RuleFacts.{wholes_over}
use Rattle.vortex_rewrite.proofs.laws.parts_and_wholes_are_over.Goals as goal

pub returns-clause-parts : goal.returns-clause-parts
returns-clause-parts c = record { operands = binary_parts; text = like_text_over; halves = halves_over }

pub returns-clause-wholes : goal.returns-clause-wholes
returns-clause-wholes c = wholes_over
