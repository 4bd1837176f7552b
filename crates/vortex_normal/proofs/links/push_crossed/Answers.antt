use Rattle.std.proofs.Common.{map}
use Rattle.vortex_normal.specs.Links.{link_of}
use Rattle.vortex_normal.proofs.LinkSteps.{cross_more}
use Rattle.vortex_normal.proofs.links.push_crossed.Goals as goal

pub loop-link-preserved : goal.loop-link-preserved
loop-link-preserved c =
    cross_more link_of (map link_of c.args.others.now) c.args.links.now c.loop-link.link-index c.link-item.result c.args.found.now.items c.loop-link.found.items c.push_consequences.new.found.items c.loop-link-test.true c.link-item.is c.loop-link.invariant c.in_ok-push_consequences.ensures
