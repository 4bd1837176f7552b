use Rattle.std.proofs.lemmas.Str.Pattern.{contains_text}
use Rattle.vortex_prune.proofs.Scanning.LikeLemmas.{within_told}
use Rattle.vortex_prune.proofs.scan.pattern.has_within.Goals as goal

pub returns : goal.returns
returns c = within_told c.contains.result c.args.part.now c.args.text.now c.utf8.part c.utf8.text (contains_text c.contains.result c.args.part.now c.args.text.now c.contains.ensures.cases)
