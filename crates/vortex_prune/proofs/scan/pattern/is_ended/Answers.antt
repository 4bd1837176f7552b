use Rattle.vortex_prune.proofs.Scanning.LikeLemmas.{ends_told}
use Rattle.vortex_prune.proofs.scan.pattern.is_ended.Goals as goal

pub returns : goal.returns
returns c = ends_told c.ends_with.result c.args.end.now c.args.text.now c.utf8.end c.utf8.text c.ends_with.ensures.cases
