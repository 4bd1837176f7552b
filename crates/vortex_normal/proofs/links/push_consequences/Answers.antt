use Rattle.vortex_normal.specs.Links.{link_of}
use Rattle.vortex_normal.proofs.LinkSteps.{each_more}
use Rattle.vortex_normal.proofs.links.push_consequences.Goals as goal

pub loop-other-preserved : goal.loop-other-preserved
loop-other-preserved c =
    each_more link_of (link_of c.args.link.now) c.args.others.now c.loop-other.other-index c.other-item.result c.args.found.now.items c.loop-other.found.items c.push_found.new.found.items c.in_ok-test.test
    c.loop-other-test.true c.other-item.is c.loop-other.invariant c.in_ok-test.ensures c.in_ok-push_found.ensures
