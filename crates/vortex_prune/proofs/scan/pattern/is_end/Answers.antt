use Rattle.std.proofs.Common.{◌∙◌}
use Rattle.vortex_prune.proofs.Scanning.LikeLemmas.{none_left}
use Rattle.vortex_prune.proofs.scan.pattern.is_end.Goals as goal

pub returns : goal.returns
returns c = c.is_empty.ensures ∙ none_left c.args.text.now c.utf8.text
