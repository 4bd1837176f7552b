use Rattle.vortex_rewrite.proofs.Soundness.RuleFacts.{facts_hold}
use Rattle.vortex_rewrite.proofs.laws.facts_hold_at_rows.Goals as goal

pub returns : goal.returns
returns c = facts_hold
