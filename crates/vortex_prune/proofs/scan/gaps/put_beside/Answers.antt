use Rattle.vortex_prune.proofs.Scanning.GapLemmas.{alike_if}
use Rattle.vortex_prune.proofs.scan.gaps.put_beside.Goals as goal

pub returns-in-Some : goal.returns-in-Some
returns-in-Some c = record {
  taken = λ h. record { gap = c.in-Some.gap; is = c.in-Some.ensures; behind = c.put.ensures.taken h };
  left = c.put.ensures.left;
  alike =
      alike_if c.put.result c.args.chunk.now.columns c.args.gaps.now.items c.put.new.gaps.items c.in-Some.gap c.put.ensures.taken c.put.ensures.left c.put.ensures.alike c.in-Some.ensures.on c.requires;
}
