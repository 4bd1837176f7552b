use Rattle.vortex_normal.specs.Links.{link_of}
use Rattle.vortex_normal.proofs.LinkSteps.{all_found}
use Rattle.vortex_normal.proofs.links.consequences.Goals as goal

pub returns : goal.returns
returns c =
    all_found link_of c.args.e.now c.new-columns.result.items c.push_column_links.new.links.items c.truncate.new.self.items c.deref.result.now c.deref-2.result.now
    c.new-bounds.result.items c.push_bound_links.new.links.items c.truncate-2.new.self.items c.deref-3.result.now
    c.new-found.result.items c.push_paired.new.found.items c.push_crossed.new.found.items c.truncate-3.new.self.items
    c.new-columns.ensures.items c.in_ok-push_column_links.ensures c.truncate.ensures.items c.new-bounds.ensures.items c.in_ok-push_bound_links.ensures c.truncate-2.ensures.items c.new-found.ensures.items
    c.deref.ensures.value c.deref-2.ensures.value c.deref-3.ensures.value c.in_ok-push_paired.ensures c.in_ok-push_crossed.ensures c.truncate-3.ensures.items
